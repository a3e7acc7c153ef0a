-- The lines of one order more.
use Rattle.std.proofs.Common.{◌≡◌, ℕ, ◌+◌, suc, List, [], ◌++◌, refl, sym, ap, ◌∙◌, arith}
use Rattle.script_file.specs.Generated.{behind_order, order_from, order_line, order_lines, orders_text, state_before}

module _ (number quarter : ℕ) where
  pub text-none : orders_text number quarter 0 ≡ []
  unfolding orders_text
  text-none = refl

  pub text-next : (i : ℕ) → orders_text number quarter i ++ order_lines number quarter i ≡ orders_text number quarter (i + 1)
  unfolding orders_text
  text-next i =
      let one_more : i + 1 ≡ suc i = omega arith in
      sym (ap (orders_text number quarter) one_more)

  pub state-none : number ≡ state_before number 0
  unfolding state_before
  state-none = refl

  pub state-next : (i x : ℕ) → x ≡ state_before number i → behind_order x ≡ state_before number (i + 1)
  unfolding state_before
  state-next i x is =
      let one_more : i + 1 ≡ suc i = omega arith in
      ap behind_order is ∙ sym (ap (state_before number) one_more)
