-- What holds of lists of which no row fails.
use Rattle.std.proofs.Common.{◌≡◌, ℕ, zero, suc, ◌+◌, ◌-◌, ◌%◌, ◌<◌, ◌≤◌, Bool, true, false, not, ◌&&◌, ◌||◌, ◌==◌, nat_le, nat_lt, cond, List, length, get_or, Option, Some, None, find, refl, sym, ap, ◌∙◌, inl, inr, arith}
use Rattle.std.proofs.lemmas.Bool.{cases_lt, false≢true}
use Rattle.std.proofs.lemmas.Bool.Decides.{nat_tests}
use Rattle.std.proofs.lemmas.List.{get_or_default}
use Rattle.std.specs.List.{range_with_len}
use Rattle.tick_grid.specs.Rows.{AreBandRows, AreTickRows}
use Rattle.tick_grid.specs.declared.rows.TickRow.{TickRow}
use Rattle.tick_grid.specs.declared.rows.BandRow.{BandRow}
use Rattle.session_phase.specs.Sessions.{AreSessions}
use Rattle.session_phase.specs.declared.session.Session.{Session}
use Rattle.allotment.specs.Rounds.{AreRounds, IsRound}
use Rattle.allotment.specs.declared.round.Round.{Round}
use Rattle.allotment.specs.declared.round.Round.TheVariants as rounds
use Rattle.rules_file.specs.Keys.{AreChecked, band_at, band_row_fails, below_before, finish_before, first_failing, goes_on, is_all, is_multiple, round_at, round_fails, session_at, session_fails, tick_at, tick_row_fails, upto_before}

none-step : (b : Bool) (x : ℕ) (o : Option ℕ) → cond b (Some x) o ≡ None → (b ≡ false) × (o ≡ None)
none-step true x o e = cc
none-step false x o e = (refl, e)

none-passes : (p : ℕ → Bool) (a n k : ℕ) → find p (range_with_len a n) ≡ None → a ≤ k → k < a + n → p k ≡ false
none-passes p a zero k none low high = absurd (omega arith)
none-passes p a (suc n) k none low high =
    let parts = none-step (p a) a (find p (range_with_len (a + 1) n)) none in
    elim (cases_lt a k) [
      | inl less ↦ none-passes p (a + 1) n k parts.1 (omega arith) (omega arith)
      | inr here ↦
          let same : k ≡ a = omega arith in
          ap p same ∙ parts.0
    ]

-- no row fails
pub passes : {A : Type 0} (fails : List A → ℕ → Bool) (rows : List A) (i : ℕ) → first_failing fails rows ≡ None → i < length rows → fails rows i ≡ false
passes fails rows i none less = none-passes (fails rows) 0 (length rows) i none (omega arith) (omega arith)

or-parts : (a b c : Bool) → (a || not b || not c) ≡ false → (a ≡ false) × (b ≡ true) × (c ≡ true)
or-parts false true true e = (refl, refl, refl)
or-parts false true false e = absurd (false≢true (sym e))
or-parts false false c e = absurd (false≢true (sym e))
or-parts true b c e = absurd (false≢true (sym e))

end-parts : (a b c : Bool) → (a || (b && not c)) ≡ false → (a ≡ false) × (b ≡ true → c ≡ true)
end-parts false b true e = (refl, λ h. refl)
end-parts false true false e = absurd (false≢true (sym e))
end-parts false false false e = (refl, λ h. absurd (false≢true h))
end-parts true b c e = absurd (false≢true (sym e))

rise-parts : (a b c : Bool) → not (a && (b && (c && true))) ≡ false → (a ≡ true) × (b ≡ true) × (c ≡ true)
rise-parts true true true e = (refl, refl, refl)
rise-parts true true false e = absurd (false≢true (sym e))
rise-parts true false c e = absurd (false≢true (sym e))
rise-parts false b c e = absurd (false≢true (sym e))

-- a place has one before it, unless it is the first
before-next : (k x y : ℕ) → cond (k + 1 == 0) x y ≡ y
before-next k x y = grind (arith, nat_tests)

module _ (rows : List TickRow) where
  tick-same : (k : ℕ) (d : TickRow) → k < length rows → get_or rows k d ≡ tick_at rows k
  tick-same k d less = get_or_default rows k d _ less

  record TickPasses (i : ℕ) : Type 0 where
    above : upto_before rows i < (tick_at rows i).upto
    own : (tick_at rows i).upto % (tick_at rows i).tick ≡ 0
    goes : goes_on rows i ≡ true

  tick-passes : (i : ℕ) → tick_row_fails rows i ≡ false → TickPasses i
  unfolding tick_row_fails
  tick-passes i ok =
      let p = or-parts (nat_le (tick_at rows i).upto (upto_before rows i)) (is_multiple (tick_at rows i).upto (tick_at rows i).tick) (goes_on rows i) ok in
      record { above = grind (arith, nat_tests, p.0); own = grind (arith, nat_tests, p.1); goes = p.2 }

  upto_before-next : (k : ℕ) → upto_before rows (k + 1) ≡ (tick_at rows k).upto
  upto_before-next k =
      let back : k + 1 - 1 ≡ k = omega arith in
      before-next k 0 (tick_at rows (k + 1 - 1)).upto ∙ ap (λ n. (tick_at rows n).upto) back

  goes-next : (k : ℕ) → k + 1 < length rows → goes_on rows k ≡ true → (tick_at rows k).upto % (tick_at rows (k + 1)).tick ≡ 0
  goes-next k less goes = grind (arith, nat_tests)

  goes-last : (k : ℕ) → k + 1 ≡ length rows → goes_on rows k ≡ true → (tick_at rows k).upto ≡ 1000000000
  goes-last k last goes = grind (arith, nat_tests)

  pub AreTickRows-checked : AreChecked (λ row. (1 ≤ row.tick) × (row.tick ≤ 1000000)) tick_row_fails 32 rows → AreTickRows rows
  AreTickRows-checked is = record {
    some = omega (arith, is.some);
    ticks = is.each;
    rising = λ k d less.
        let p = tick-passes (k + 1) (passes tick_row_fails rows (k + 1) is.none_fails less) in
        rw (tick-same k d (omega arith), tick-same (k + 1) d less) (omega (arith, p.above, upto_before-next k));
    own = λ k d less. rw (tick-same k d less) (tick-passes k (passes tick_row_fails rows k is.none_fails less)).own;
    next = λ k d less.
        let p = tick-passes k (passes tick_row_fails rows k is.none_fails (omega arith)) in
        rw (tick-same k d (omega arith), tick-same (k + 1) d less) (goes-next k less p.goes);
    last = λ d.
        let n = length rows - 1 in
        let p = tick-passes n (passes tick_row_fails rows n is.none_fails (omega (arith, is.some))) in
        rw (tick-same n d (omega (arith, is.some))) (goes-last n (omega (arith, is.some)) p.goes);
  }

module _ (rows : List BandRow) where
  band-same : (k : ℕ) (d : BandRow) → k < length rows → get_or rows k d ≡ band_at rows k
  band-same k d less = get_or_default rows k d _ less

  record BandPasses (i : ℕ) : Type 0 where
    above : below_before rows i < (band_at rows i).below
    last : i + 1 ≡ length rows → (band_at rows i).below ≡ 1000000001

  band-passes : (i : ℕ) → band_row_fails rows i ≡ false → BandPasses i
  unfolding band_row_fails
  band-passes i ok =
      let p = end-parts (nat_le (band_at rows i).below (below_before rows i)) (i + 1 == length rows) ((band_at rows i).below == 1000000001) ok in
      record { above = grind (arith, nat_tests, p.0); last = λ end. let at : (i + 1 == length rows) ≡ true = grind (arith, nat_tests) in let h = p.1 at in grind (arith, nat_tests, h) }

  below_before-next : (k : ℕ) → below_before rows (k + 1) ≡ (band_at rows k).below
  below_before-next k =
      let back : k + 1 - 1 ≡ k = omega arith in
      before-next k 0 (band_at rows (k + 1 - 1)).below ∙ ap (λ n. (band_at rows n).below) back

  pub AreBandRows-checked : AreChecked (λ row. (1 ≤ row.value) × (row.value ≤ 1000000000)) band_row_fails 64 rows → AreBandRows rows
  AreBandRows-checked is = record {
    some = omega (arith, is.some);
    values = is.each;
    rising = λ k d less.
        let p = band-passes (k + 1) (passes band_row_fails rows (k + 1) is.none_fails less) in
        rw (band-same k d (omega arith), band-same (k + 1) d less) (omega (arith, p.above, below_before-next k));
    last = λ d.
        let n = length rows - 1 in
        let p = band-passes n (passes band_row_fails rows n is.none_fails (omega (arith, is.some))) in
        rw (band-same n d (omega (arith, is.some))) (p.last (omega (arith, is.some)));
  }

module _ (rows : List Session) where
  session-same : (k : ℕ) (d : Session) → k < length rows → get_or rows k d ≡ session_at rows k
  session-same k d less = get_or_default rows k d _ less

  record SessionPasses (i : ℕ) : Type 0 where
    later : finish_before rows i < (session_at rows i).accept
    collects : (session_at rows i).accept < (session_at rows i).begin
    trades : (session_at rows i).begin < (session_at rows i).finish

  session-passes : (i : ℕ) → session_fails rows i ≡ false → SessionPasses i
  unfolding session_fails
  session-passes i ok =
      let s = session_at rows i in
      let p = rise-parts (nat_lt (finish_before rows i) s.accept) (nat_lt s.accept s.begin) (nat_lt s.begin s.finish) ok in
      record { later = grind (arith, nat_tests, p.0); collects = grind (arith, nat_tests, p.1); trades = grind (arith, nat_tests, p.2) }

  finish_before-next : (k : ℕ) → finish_before rows (k + 1) ≡ (session_at rows k).finish
  finish_before-next k =
      let back : k + 1 - 1 ≡ k = omega arith in
      before-next k 0 (session_at rows (k + 1 - 1)).finish ∙ ap (λ n. (session_at rows n).finish) back

  pub AreSessions-checked : AreChecked (λ _. Unit {0}) session_fails 4 rows → AreSessions rows
  AreSessions-checked is = record {
    each = λ k d less.
        let p = session-passes k (passes session_fails rows k is.none_fails less) in
        rw (session-same k d less) (record { after_midnight = omega (arith, p.later); collects = p.collects; trades = p.trades });
    apart = λ k d less.
        let p = session-passes (k + 1) (passes session_fails rows (k + 1) is.none_fails less) in
        rw (session-same k d (omega arith), session-same (k + 1) d less) (omega (arith, p.later, finish_before-next k));
  }

-- the test of the last round
is_all-is : (round : Round) → is_all round ≡ true → round ≡ rounds.All
is_all-is (rounds.Units k) e = absurd (false≢true e)
is_all-is (rounds.Part n d) e = absurd (false≢true e)
is_all-is rounds.All e = refl

module _ (rows : List Round) where
  round-last : (k : ℕ) → round_fails rows k ≡ false → k + 1 ≡ length rows → is_all (round_at rows k) ≡ true
  unfolding round_fails
  round-last k ok last = grind (arith, nat_tests)

  round-inner : (k : ℕ) → round_fails rows k ≡ false → is_all (round_at rows k) ≡ true → k + 1 ≡ length rows
  unfolding round_fails
  round-inner k ok all = grind (arith, nat_tests)

  pub AreRounds-checked : AreChecked IsRound round_fails 16 rows → AreRounds rows
  AreRounds-checked is = record {
    some = omega (arith, is.some);
    each = is.each;
    ends = λ k d less.
        let ok = passes round_fails rows k is.none_fails less in
        rw (get_or_default rows k d rounds.All less)
        (λ all. round-inner k ok (ap is_all all), λ last. is_all-is (round_at rows k) (round-last k ok last));
  }
