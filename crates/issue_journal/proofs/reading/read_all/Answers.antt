use Rattle.std.proofs.Common.{◌≡◌, length, None, ap, ◌∙◌, arith}
use Rattle.std.proofs.lemmas.List.{length_push}
use Rattle.mkt_base.specs.declared.event.Entry.{Entry}
use Rattle.mkt_base.specs.declared.event.Event.TheVariants as events
use Rattle.issue_journal.specs.Reading.{AreLeft}
use Rattle.issue_journal.proofs.ReadLemmas.{entry-found, entry-there, left-tried, taken-more, tried-then}
use Rattle.issue_journal.proofs.reading.read_all.Goals as goal

any_entry : Entry
any_entry = record { place = 0; caller = record { 0 = 0 }; own = 0; event = events.Clock 0 }

pub returns-in_default-entry_of-clause-first_none : goal.returns-in_default-entry_of-clause-first_none
returns-in_default-entry_of-clause-first_none g c = λ _ entries left long.
    let at = c.loop-at.at in
    let here : AreLeft entries c.args.end c.loop-at.first c.loop-at.second c.loop-at.third =
    left-tried entries c.args.end _ _ _ _ _ _ (omega (arith, c.loop-at-test.true)) c.loop-at.invariant.0.first_tried c.loop-at.invariant.0.second_tried c.loop-at.invariant.0.third_tried left in
    let none : c.entry_of.result ≡ None = c.in_default-entry_of.is in
    absurd (entry-there entries c.args.end c.loop-at.first c.loop-at.second c.loop-at.third here at (omega (arith, c.loop-at-test.true)) c.in-Some.rec (c.in-Some.ensures.read entries here)
    c.entry_of.result c.entry_of.ensures none any_entry)

pub returns-in_default-entry_of-clause-second_none : goal.returns-in_default-entry_of-clause-second_none
returns-in_default-entry_of-clause-second_none g c = λ _ entries left long.
    let at = c.loop-at.at in
    let here : AreLeft entries c.args.end c.loop-at.first c.loop-at.second c.loop-at.third =
    left-tried entries c.args.end _ _ _ _ _ _ (omega (arith, c.loop-at-test.true)) c.loop-at.invariant.0.first_tried c.loop-at.invariant.0.second_tried c.loop-at.invariant.0.third_tried left in
    let none : c.entry_of.result ≡ None = c.in_default-entry_of.is in
    absurd (entry-there entries c.args.end c.loop-at.first c.loop-at.second c.loop-at.third here at (omega (arith, c.loop-at-test.true)) c.in-Some.rec (c.in-Some.ensures.read entries here)
    c.entry_of.result c.entry_of.ensures none any_entry)

pub returns-in_default-entry_of-clause-third_none : goal.returns-in_default-entry_of-clause-third_none
returns-in_default-entry_of-clause-third_none g c = λ _ entries left long.
    let at = c.loop-at.at in
    let here : AreLeft entries c.args.end c.loop-at.first c.loop-at.second c.loop-at.third =
    left-tried entries c.args.end _ _ _ _ _ _ (omega (arith, c.loop-at-test.true)) c.loop-at.invariant.0.first_tried c.loop-at.invariant.0.second_tried c.loop-at.invariant.0.third_tried left in
    let none : c.entry_of.result ≡ None = c.in_default-entry_of.is in
    absurd (entry-there entries c.args.end c.loop-at.first c.loop-at.second c.loop-at.third here at (omega (arith, c.loop-at-test.true)) c.in-Some.rec (c.in-Some.ensures.read entries here)
    c.entry_of.result c.entry_of.ensures none any_entry)

pub loop-at-preserved : goal.loop-at-preserved
loop-at-preserved g c = (
  record {
    first_tried = tried-then c.args.end _ _ _ c.loop-at.invariant.0.first_tried c.read_any.ensures.first_tried;
    second_tried = tried-then c.args.end _ _ _ c.loop-at.invariant.0.second_tried c.read_any.ensures.second_tried;
    third_tried = tried-then c.args.end _ _ _ c.loop-at.invariant.0.third_tried c.read_any.ensures.third_tried;
    read = λ entries left.
        let at = c.loop-at.at in
        let here : AreLeft entries c.args.end c.loop-at.first c.loop-at.second c.loop-at.third =
        left-tried entries c.args.end _ _ _ _ _ _ (omega (arith, c.loop-at-test.true)) c.loop-at.invariant.0.first_tried c.loop-at.invariant.0.second_tried c.loop-at.invariant.0.third_tried left in
        let found = entry-found entries c.args.end c.loop-at.first c.loop-at.second c.loop-at.third here at (omega (arith, c.loop-at-test.true)) c.in-Some.rec (c.in-Some.ensures.read entries here)
        c.entry_of.result c.entry_of.ensures c.in-Some-entry_of.entry c.in-Some-entry_of.is in
        taken-more entries c.loop-at.log.items c.push.new.list.items at c.in-Some-entry_of.entry (c.loop-at.invariant.0.read entries left) found c.push.ensures.items;
    count = omega (arith, ap length c.push.ensures.items, length_push c.loop-at.log.items c.in-Some-entry_of.entry, c.loop-at.invariant.0.count);
  },
  c.push.ensures.capacity ∙ c.loop-at.invariant.1,
)
