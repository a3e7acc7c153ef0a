use Rattle.list_tests.proofs.tests.lists.an_item_is_put_in_and_taken_out.Goals as goal

pub unlink-requires : goal.unlink-requires
unlink-requires g c = (0, 7, c.push_back-second.ensures.stay c.push_back-first.result 0 7 c.push_back-first.ensures.names)
