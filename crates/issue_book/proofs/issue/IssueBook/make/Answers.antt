use Rattle.std.proofs.Common.{◌≡◌, ℕ, List, [], ◌∷◌, None, refl, rules, sym, ap, subst, ◌∙◌}
use Rattle.mkt_base.specs.Book.{price_at}
use Rattle.mkt_base.specs.declared.event.Phase.TheVariants.{Idle}
use Rattle.mkt_base.specs.declared.journal.NodeState.TheVariants.{Synchronised}
use Rattle.mkt_base.specs.declared.units.Price.{Price}
use Rattle.allotment.specs.declared.round.Round.{Round}
use Rattle.book_law.specs.BookView.{BookView, orders}
use Rattle.rules_file.specs.declared.issue.IssueRules.{IssueRules}
use Rattle.rules_file.specs.declared.rules.Rules.{Rules}
use Rattle.session_phase.specs.declared.session.Session.{Session}
use Rattle.tick_grid.specs.Rows.{grid_of}
use Rattle.tick_grid.specs.declared.rows.BandRow.{BandRow}
use Rattle.issue_book.specs.IssueView.{IsPriceOf, IssueView, terms_of}
use Rattle.issue_book.specs.State.{State, Terms, start}
use Rattle.issue_book.proofs.GridLemmas.{on-grid}
use Rattle.issue_book.proofs.issue.IssueBook.make.Goals as goal

abbrev shown : Terms → ℕ → State → IssueView
shown terms capacity state = record { terms = terms; capacity = capacity; state = state }

-- what the parts of a new book show
made-is : (rules : Rules) (r row : IssueRules) (book : BookView) (grid : List Price) (ranges : List BandRow) (sessions : List Session) (rounds : List Round) (clock last prices capacity : ℕ)
    → row ≡ r → book ≡ record { prices = prices; capacity = capacity; slots = [] } → grid ≡ grid_of rules.ticks row.low.0 row.high.0 → ranges ≡ rules.ranges → sessions ≡ rules.sessions → rounds ≡ rules.rounds
    → clock ≡ 0 → price_at grid last ≡ row.base.0
    → shown (record {
      grid = grid;
      base = row.base.0;
      unit = row.unit;
      ranges = ranges;
      sessions = sessions;
      rounds = rounds;
      special_ms = rules.special_ms;
      sequential_ms = rules.sequential_ms;
    }) book.capacity (record {
      orders = orders book;
      phase = Idle;
      now = clock;
      last = price_at grid last;
      quote = None;
      nodes = Synchronised ∷ Synchronised ∷ Synchronised ∷ [];
      entries = 0;
    }) ≡ shown (terms_of rules r) capacity (start (terms_of rules r))
made-is rules r row book grid ranges sessions rounds clock last prices capacity same book_is grid_is ranges_are sessions_are rounds_are clock_is last_is =
    rw (last_is, book_is, grid_is, ranges_are, sessions_are, rounds_are, clock_is, same) refl

pub position_of-last-requires : goal.position_of-last-requires
position_of-last-requires c =
    let row = c.issue-row.result in
    let sound = c.issue-row.ensures.sound in
    let built : c.in_ok-grid.grid ≡ grid_of c.as_slice.result.now row.low.0 row.high.0 = search rules in
    let same = built ∙ ap (λ ticks. grid_of ticks row.low.0 row.high.0) c.as_slice.ensures in
    subst (λ grid. IsPriceOf grid row.base.0) (sym same) (on-grid c.args.rules.now.ticks row.low.0 row.high.0 row.base.0 sound.on_tick sound.low.1 sound.high.0)

pub returns : goal.returns
returns c = λ r at.
    let row = c.issue-row.result in
    let built : c.in_ok-grid.grid ≡ grid_of c.as_slice.result.now row.low.0 row.high.0 = search rules in
    let on_ticks = built ∙ ap (λ ticks. grid_of ticks row.low.0 row.high.0) c.as_slice.ensures in
    let empty : c.in_ok-book.book ≡ record { prices = c.size.result; capacity = c.args.capacity; slots = [] } = search rules in
    let row_is : row ≡ r = cc (c.issue-row.ensures.value, at) in
    made-is c.args.rules.now r row c.in_ok-book.book c.in_ok-grid.grid c.in_ok-ranges.ranges c.in_ok-sessions.sessions c.in_ok-rounds.rounds c.midnight.result c.position_of-last.result c.size.result c.args.capacity
    row_is empty on_ticks (c.in_ok-ranges.ensures ∙ c.as_slice-2.ensures) (c.in_ok-sessions.ensures ∙ c.as_slice-3.ensures) (c.in_ok-rounds.ensures ∙ c.as_slice-4.ensures)
    c.midnight.ensures c.position_of-last.ensures.price
