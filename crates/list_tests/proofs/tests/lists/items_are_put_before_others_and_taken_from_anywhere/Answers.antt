use Rattle.std.proofs.Common.{◌≡◌, ◌≢◌, ℕ, ◌<◌, length, subst, sym, arith}
use Rattle.order_list.specs.Lists.{IsIn, IsLive, Linked, Lists}
use Rattle.list_tests.proofs.tests.lists.items_are_put_before_others_and_taken_from_anywhere.Goals as goal

pub insert_before-nine-requires-clause-live : goal.insert_before-nine-requires-clause-live
insert_before-nine-requires-clause-live g c =
    (1, 1, c.push_back-three.ensures.stay c.push_back-one.result 1 1 (c.push_back-two.ensures.stay c.push_back-one.result 1 1 c.push_back-one.ensures.names))

pub insert_before-eight-requires-clause-live : goal.insert_before-eight-requires-clause-live
insert_before-eight-requires-clause-live g c = (1, 3, c.insert_before-nine.ensures.stay c.push_back-three.result 1 3 c.push_back-three.ensures.names)

pub item-requires : goal.item-requires
item-requires g c =
    let one = c.push_back-three.ensures.stay c.push_back-one.result 1 1 (c.push_back-two.ensures.stay c.push_back-one.result 1 1 c.push_back-one.ensures.names) in
    (1, 9, c.insert_before-eight.ensures.stay c.insert_before-nine.result 1 9 (c.insert_before-nine.ensures.names 1 1 one))

pub item-requires-2 : goal.item-requires-2
item-requires-2 g c =
    (1, 8, c.insert_before-eight.ensures.names 1 3 (c.insert_before-nine.ensures.stay c.push_back-three.result 1 3 c.push_back-three.ensures.names))

pub set-requires : goal.set-requires
set-requires g c =
    let one = c.push_back-three.ensures.stay c.push_back-one.result 1 1 (c.push_back-two.ensures.stay c.push_back-one.result 1 1 c.push_back-one.ensures.names) in
    (1, 9, c.insert_before-eight.ensures.stay c.insert_before-nine.result 1 9 (c.insert_before-nine.ensures.names 1 1 one))

-- the second item, which is not the one that was changed
pub unlink-requires : goal.unlink-requires
unlink-requires g c =
    let two = c.push_back-three.ensures.stay c.push_back-two.result 1 2 c.push_back-two.ensures.names in
    let differs : c.push_back-two.result ≢ c.insert_before-nine.result =
    λ same. c.insert_before-nine.ensures.unused (1, 2, subst (λ link. IsIn c.push_back-three.new.self.lists link 1 2) same two) in (
      1,
      2,
      c.set.ensures.others c.push_back-two.result 1 2 differs
          (c.insert_before-eight.ensures.stay c.push_back-two.result 1 2 (c.insert_before-nine.ensures.stay c.push_back-two.result 1 2 two)),
    )
