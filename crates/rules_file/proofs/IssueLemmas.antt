-- The issues of a rules file: their grids, and the loop over their tables.
use Rattle.std.proofs.Common.{◌≡◌, ℕ, zero, suc, ◌+◌, ◌-◌, ◌<◌, ◌≤◌, Bool, true, false, cond, ◌&&◌, List, [], ◌∷◌, ◌++◌, length, length-append, get_or, drop, map, take, Option, Some, None, is_some, Result, Ok, Err, filter, refl, sym, ap, ◌∙◌, inl, inr, arith}
use Rattle.std.proofs.lemmas.Bool.{and_parts, cases_lt, false≢true}
use Rattle.std.proofs.lemmas.List.{drop_all, drop_more, get_or_append_left, length-map, take-append-le}
use Rattle.std.proofs.Math.Seq.{get_or-append_seam, take-append_seam}
use Rattle.std.proofs.lemmas.List.Elements.{All-push}
use Rattle.std.specs.List.{list_all, list_any, range_with_len}
use Rattle.std.specs.Str.{bytes_eq}
use Rattle.toml.specs.Data.{Data, Members, as_table, no_members}
use Rattle.toml.specs.View.{view}
use Rattle.toml.specs.declared.value.Value.{Value}
use Rattle.mkt_base.specs.Book.{price_at}
use Rattle.mkt_base.specs.declared.units.Price.{Price}
use Rattle.tick_grid.specs.Grid.{IsGrid, first_price, last_price}
use Rattle.tick_grid.specs.Laws.{GridBetweenItsEnds}
use Rattle.tick_grid.specs.Rows.{grid_of, is_on_tick, price_of, prices_on_tick}
use Rattle.tick_grid.specs.declared.rows.TickRow.{TickRow}
use Rattle.tick_grid.specs.declared.rows.BandRow.{BandRow}
use Rattle.tick_grid.proofs.GridLemmas.{not-falling}
use Rattle.tick_grid.proofs.RowLemmas.{price_at-prices}
use Rattle.rules_file.specs.Forms.{◌>>=◌ as ◌andThen◌, all_of, is_name, is_table, members_in}
use Rattle.rules_file.specs.Keys.{AreDistinct, listed, name_at, rows_at, stands_earlier}
use Rattle.rules_file.specs.Issues.{AreIssues, IsIssue, IsNewCode, high_end, issue_grid, issue_of, issue_rules, issues_at, issues_of, low_end, no_issues, with_issue}
use Rattle.rules_file.specs.declared.fault.RulesFault.{RulesFault}
use Rattle.rules_file.specs.declared.fault.RulesFault.TheVariants.{BadNumber}
use Rattle.rules_file.specs.declared.issue.IssueRules.{IssueRules}
use Rattle.rules_file.specs.declared.issue.Issues.{Issues}
use Rattle.std.specs.Prelude.{codes, unwrap_or}

-- a number stands in a list
abbrev pub Has : List ℕ → ℕ → Type 0
Has xs x = (k : ℕ) × (k < length xs) × (get_or xs k 0 ≡ x)

has-more : (b : Bool) (a : ℕ) (xs : List ℕ) (x : ℕ) → Has xs x → Has (cond b (a ∷ xs) xs) x
has-more true a xs x has = (suc has.0, omega (arith, has.1), has.2)
has-more false a xs x has = has

-- a number of a range that passes a test is one of those that do
has-passing : (p : ℕ → Bool) (a n x : ℕ) → a ≤ x → x < a + n → p x ≡ true → Has (filter p (range_with_len a n)) x
has-passing p a zero x low high passes = absurd (omega arith)
has-passing p a (suc n) x low high passes =
    elim (cases_lt a x) [
      | inl less ↦ has-more (p a) a (filter p (range_with_len (a + 1) n)) x (has-passing p (a + 1) n x (omega arith) (omega arith) passes)
      | inr here ↦
          let same : a ≡ x = omega arith in
          let first : p a ≡ true = ap p same ∙ passes in
          rw first (0, omega arith, same)
    ]

-- the base of an issue stands on its grid
pub base_on_grid : (ticks : List TickRow) (limits : List BandRow) (base : ℕ) → 1 ≤ base → base ≤ 1000000000 → is_on_tick ticks base ≡ true
    → (k : ℕ) × (k < length (grid_of ticks (low_end limits base) (high_end limits base))) × (price_at (grid_of ticks (low_end limits base) (high_end limits base)) k ≡ base)
unfolding grid_of prices_on_tick
base_on_grid ticks limits base low high on_tick =
    let from = low_end limits base in
    let n = high_end limits base + 1 - from in
    let xs = filter (is_on_tick ticks) (range_with_len from n) in
    let has : Has xs base = has-passing (is_on_tick ticks) from n base (omega arith) (omega arith) on_tick in
    (has.0, rw (length-map) has.1, price_at-prices xs has.0 ∙ has.2)

-- what holds of an issue whose base is on tick
pub IsIssue-of : (ticks : List TickRow) (limits : List BandRow) (base unit : ℕ) (prices : List Price) → GridBetweenItsEnds → IsGrid prices
    → prices ≡ grid_of ticks (low_end limits base) (high_end limits base) → (1 ≤ base) × (base ≤ 1000000000) → (1 ≤ unit) × (unit ≤ 100000000) → is_on_tick ticks base ≡ true
    → IsIssue ticks limits (issue_rules base unit prices)
unfolding issue_grid
IsIssue-of ticks limits base unit prices between grid is range units on_tick =
    let whole = grid_of ticks (low_end limits base) (high_end limits base) in
    let found = base_on_grid ticks limits base range.0 range.1 on_tick in
    let k = found.0 in
    let inside : k < length prices = rw is found.1 in
    let at : price_at prices k ≡ base = rw is found.2 in
    let first : price_at prices 0 ≤ price_at prices k = not-falling prices grid.rising 0 k (omega arith) inside in
    let last : price_at prices k ≤ price_at prices (length prices - 1) = not-falling prices grid.rising k (length prices - 1) (omega arith) (omega arith) in
    let least = grid.within 0 (price_of 0) (omega (arith, grid.some)) in
    let greatest = grid.within (length prices - 1) (price_of 0) (omega (arith, grid.some)) in
    let same : grid_of ticks (first_price prices) (last_price prices) ≡ whole = rw is (between ticks (low_end limits base) (high_end limits base) (rw (← is) grid.some)) in
    record {
      on_tick = on_tick;
      unit = units;
      low = (omega (arith, least.0), omega (arith, first, at));
      high = (omega (arith, last, at), omega (arith, greatest.1));
      grid = same;
      size = ap length is ∙ ap length (sym same);
      prices = (grid.some, grid.few);
    }

-- each of some values that are all tables is a table
pub table_at : (values : List Value) (i : ℕ) (d : Value) → list_all is_table (map view values) ≡ true → i < length values → is_table (view (get_or values i d)) ≡ true
table_at [] i d all less = absurd (omega arith)
table_at (v ∷ values) zero d all less = (and_parts (is_table (view v)) (list_all is_table (map view values)) all).0
table_at (v ∷ values) (suc i) d all less = table_at values i d (and_parts (is_table (view v)) (list_all is_table (map view values)) all).1 (omega arith)

-- the issues that are left, after those that are read, say what all say
module _ (ticks : List TickRow) (limits : List BandRow) (values : List Value) (i : ℕ) (before : Issues) (all : Result Issues RulesFault)
    (left : issues_of ticks limits before (map members_in (map view (drop i values))) ≡ all) where
  rows_at_place : (v : Value) → i < length values → v ≡ get_or values i v → map members_in (map view (drop i values)) ≡ members_in (view v) ∷ map members_in (map view (drop (i + 1) values))
  rows_at_place v less is = rw (drop_more values i v less, ← is) refl

  pub issues_of-fault : (v : Value) (fault : RulesFault) → i < length values → v ≡ get_or values i v
      → issue_of ticks limits before.codes (members_in (view v)) ≡ Err fault → all ≡ Err fault
  unfolding issues_of
  issues_of-fault v fault less is said =
      sym left ∙ ap (issues_of ticks limits before) (rows_at_place v less is) ∙ rw said refl

  pub issues_of-more : (v : Value) (issue : List ℕ × IssueRules) (after : Issues) → i < length values → v ≡ get_or values i v
      → issue_of ticks limits before.codes (members_in (view v)) ≡ Ok issue → after ≡ with_issue before issue
      → issues_of ticks limits after (map members_in (map view (drop (i + 1) values))) ≡ all
  unfolding issues_of
  issues_of-more v issue after less is said added =
      ap (λ a. issues_of ticks limits a (map members_in (map view (drop (i + 1) values)))) added
      ∙ sym (ap (issues_of ticks limits before) (rows_at_place v less is) ∙ rw said refl) ∙ left

  pub issues_of-end : length values ≤ i → all ≡ Ok before
  unfolding issues_of
  issues_of-end end = sym left ∙ ap (λ vs. issues_of ticks limits before (map members_in (map view vs))) (drop_all i values end)

table-taken : (o : Option Members) (rest : Option (List Members)) (rows : List Members) → is_some o ≡ true → rest ≡ Some rows
    → (o andThen λ row. rest andThen λ rows. Some (row ∷ rows)) ≡ Some (unwrap_or o no_members ∷ rows)
table-taken None rest rows some is = absurd (false≢true some)
table-taken (Some row) rest rows some is = rw is refl

table-refused : (o : Option Members) (b : Bool) (rest : Option (List Members)) → (is_some o && b) ≡ false → (b ≡ false → rest ≡ None)
    → (o andThen λ row. rest andThen λ rows. Some (row ∷ rows)) ≡ None
table-refused None b rest refused none = refl
table-refused (Some row) b rest refused none = rw (none refused) refl

-- the form of all values, where all are tables or one is not
pub all_tables-are : (ds : List Data) → list_all is_table ds ≡ true → all_of as_table ds ≡ Some (map members_in ds)
all_tables-are [] all = refl
all_tables-are (d ∷ ds) all =
    let (here, more) = and_parts (is_table d) (list_all is_table ds) all in
    table-taken (as_table d) (all_of as_table ds) (map members_in ds) here (all_tables-are ds more)

pub all_tables-not : (ds : List Data) → list_all is_table ds ≡ false → all_of as_table ds ≡ None
all_tables-not [] none = absurd (false≢true (sym none))
all_tables-not (d ∷ ds) none = table-refused (as_table d) (list_all is_table ds) (all_of as_table ds) none (all_tables-not ds)

-- what a table says of its issues, where these are its items
module _ (ticks : List TickRow) (limits : List BandRow) (table : Members) (ds : List Data) (items : listed (codes "issue") 64 table ≡ Ok ds) where
  pub issues_at-tables : list_all is_table ds ≡ true → issues_at ticks limits table ≡ issues_of ticks limits no_issues (map members_in ds)
  unfolding issues_at rows_at
  issues_at-tables all = rw (items, all_tables-are ds all) refl

  pub issues_at-refused : list_all is_table ds ≡ false → issues_at ticks limits table ≡ Err (BadNumber (codes "issue"))
  unfolding issues_at rows_at
  issues_at-refused none = rw (items, all_tables-not ds none) refl

-- names of which none stands earlier, and a new one
earlier-before : (names : List (List ℕ)) (name : List ℕ) (k : ℕ) → k < length names → stands_earlier (names ++ name ∷ []) k ≡ stands_earlier names k
unfolding stands_earlier
earlier-before names name k less =
    let same : name_at (names ++ name ∷ []) k ≡ name_at names k = get_or_append_left names (name ∷ []) [] k less in
    let front : take k (names ++ name ∷ []) ≡ take k names = take-append-le k names (name ∷ []) (omega arith) in
    rw (same, front) refl

earlier-last : (names : List (List ℕ)) (name : List ℕ) (k : ℕ) → k ≡ length names → stands_earlier (names ++ name ∷ []) k ≡ list_any (bytes_eq name) names
unfolding stands_earlier
earlier-last names name k last =
    let same : name_at (names ++ name ∷ []) k ≡ name = rw last (get_or-append_seam names name [] []) in
    let front : take k (names ++ name ∷ []) ≡ names = rw last (take-append_seam names (name ∷ [])) in
    rw (same, front) refl

pub AreDistinct-push : (names : List (List ℕ)) (name : List ℕ) → AreDistinct names → list_any (bytes_eq name) names ≡ false → AreDistinct (names ++ name ∷ [])
AreDistinct-push names name distinct fresh = λ k less.
    elim (cases_lt k (length names)) [
      | inl before ↦ earlier-before names name k before ∙ distinct k before
      | inr here ↦
          let last : k ≡ length names = omega (arith, length-append names (name ∷ []), less) in
          earlier-last names name k last ∙ fresh
    ]

-- the issues so far, and one more
pub AreIssues-more : (ticks : List TickRow) (limits : List BandRow) (before : Issues) (issue : List ℕ × IssueRules) → AreIssues ticks limits before
    → IsNewCode before.codes issue.0 → IsIssue ticks limits issue.1 → AreIssues ticks limits (with_issue before issue)
AreIssues-more ticks limits before issue sound code is = record {
  each = All-push (IsIssue ticks limits) before.rules issue.1 sound.each is;
  sizes = omega (arith, sound.sizes, length-append before.codes (issue.0 ∷ []), length-append before.rules (issue.1 ∷ []));
  names = All-push (λ code. is_name code ≡ true) before.codes issue.0 sound.names code.name;
  distinct = AreDistinct-push before.codes issue.0 sound.distinct code.fresh;
}
