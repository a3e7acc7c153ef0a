-- The rows that tell the orders among the events, while lines are added.
use Rattle.std.proofs.Common.{◌≡◌, ◌≢◌, ℕ, zero, suc, ◌<◌, ◌≤◌, Bool, true, false, ◌&&◌, ◌==◌, cond, ◌⊎◌, inl, inr, List, [], ◌∷◌, ◌++◌, length, map, get_or, set, replicate, refl, sym, ap, subst, ◌∙◌, arith}
use Rattle.std.specs.Option.{option_map_or}
use Rattle.std.specs.Prelude.{slice_get}
use Rattle.std.proofs.Math.Seq.{map-set_same}
use Rattle.std.proofs.lemmas.Bool.Decides.{eqb_tells}
use Rattle.std.proofs.lemmas.List.{append-nil, get_or-map, get_or-replicate, get_or-set_other, get_or-set_same, length-replicate, length-set, map-append, map-set}
use Rattle.std.proofs.lemmas.List.Elements.{filter-append}
use Rattle.mkt_base.specs.declared.event.Event.{Event}
use Rattle.mkt_base.specs.declared.script.Act.{Act}
use Rattle.mkt_base.specs.declared.script.Act.TheVariants.{Do, Show}
use Rattle.mkt_base.specs.declared.units.Caller.{Caller}
use Rattle.script_file.specs.Orders.{AreRowsOf, noted, orders_by, row_at, row_of}
use Rattle.script_file.specs.Own.{events_by, is_event, is_order, is_order_of}
use Rattle.script_file.specs.declared.script.GatewayScriptLine.{GatewayScriptLine}

-- a row of a list of rows by what f tells of each: an item more, or none
module _ {X : Type 0} (f : X → List Bool) (rows : List X) (at : ℕ) (old new : X) (within : at < length rows) (read : old ≡ get_or rows at old) where
  pub row-pushed : (item : Bool) → f new ≡ f old ++ item ∷ [] → map f (set rows at new) ≡ set (map f rows) at (get_or (map f rows) at [] ++ item ∷ [])
  row-pushed item more =
      let row : get_or (map f rows) at [] ≡ f old = get_or-map f rows at old [] within ∙ ap f (sym read) in
      map-set f rows at new ∙ ap (set (map f rows) at) (more ∙ ap (λ (row : List Bool). row ++ item ∷ []) (sym row))

  pub row-kept : f new ≡ f old → map f (set rows at new) ≡ map f rows
  row-kept same = map-set_same f rows at new old (same ∙ ap f read)

-- no event is noted before the first line
pub AreRowsOf-none : (rows : List (List Bool)) → rows ≡ replicate 1088 [] → AreRowsOf rows []
AreRowsOf-none rows none =
    let start : AreRowsOf (replicate 1088 []) [] = record {
      count = length-replicate {A = List Bool} 1088 [];
      each = λ gateway issue low few. let below : row_of gateway issue < 1088 = omega arith in get_or-replicate 1088 (row_of gateway issue) [] [] below;
    } in
    subst (λ (rs : List (List Bool)). AreRowsOf rs []) (sym none) start

-- what the row of a gateway and an issue tells of an own number
pub order-told : (rows : List (List Bool)) (made : List GatewayScriptLine) (gateway : Caller) (issue own : ℕ) → AreRowsOf rows made → gateway.0 ≤ 16 → issue < 64
    → get_or (row_at rows (row_of gateway issue)) own false ≡ is_order_of made gateway issue own
unfolding is_order_of
order-told rows made gateway issue own are low few =
    ap (λ (row : List Bool). get_or row own false) (are.each gateway issue low few) ∙ told_at (events_by gateway issue made) own
  where
    told : GatewayScriptLine → Bool
    told of = is_order of.line.act

    told_at : (events : List GatewayScriptLine) (at : ℕ) → get_or (map told events) at false ≡ option_map_or told (slice_get events at) false
    told_at [] at = refl
    told_at (of ∷ more) zero = refl
    told_at (of ∷ more) (suc at) = told_at more at

-- a line more
module _ (gateway : Caller) (issue : ℕ) (made : List GatewayScriptLine) (line : GatewayScriptLine) where
  abbrev is_there : Bool
  is_there = line.gateway.0 == gateway.0 && line.line.issue == issue && is_event line.line.act

  orders_by-more : orders_by gateway issue (made ++ line ∷ []) ≡ orders_by gateway issue made ++ orders_by gateway issue (line ∷ [])
  orders_by-more =
      let test = λ (of : GatewayScriptLine). of.gateway.0 == gateway.0 && of.line.issue == issue && is_event of.line.act in
      let told = λ (of : GatewayScriptLine). is_order of.line.act in
      ap (map told) (filter-append test made (line ∷ [])) ∙ map-append told _ _

  pub orders_by-here : is_there ≡ true → orders_by gateway issue (made ++ line ∷ []) ≡ orders_by gateway issue made ++ is_order line.line.act ∷ []
  orders_by-here here =
      let one : orders_by gateway issue (line ∷ []) ≡ is_order line.line.act ∷ [] = ap (λ b. map (λ (of : GatewayScriptLine). is_order of.line.act) (cond b (line ∷ []) [])) here in
      orders_by-more ∙ ap (λ (row : List Bool). orders_by gateway issue made ++ row) one

  pub orders_by-elsewhere : is_there ≡ false → orders_by gateway issue (made ++ line ∷ []) ≡ orders_by gateway issue made
  orders_by-elsewhere not =
      let none : orders_by gateway issue (line ∷ []) ≡ [] = ap (λ b. map (λ (of : GatewayScriptLine). is_order of.line.act) (cond b (line ∷ []) [])) not in
      orders_by-more ∙ ap (λ (row : List Bool). orders_by gateway issue made ++ row) none ∙ append-nil _

-- an event of a gateway in an issue is noted at the end of their row, and the other rows stay
module _ (rows : List (List Bool)) (made : List GatewayScriptLine) (are : AreRowsOf rows made) (by : Caller) (number stage at : ℕ) (event : Event) (low : by.0 ≤ 16) (few : at < 64) where
  abbrev line : GatewayScriptLine
  line = record { gateway = by; line = record { line = number; stage = stage; issue = at; act = Do event } }

  abbrev after : List (List Bool)
  after = noted rows by at (Do event)

  module _ (gateway : Caller) (issue : ℕ) (l : gateway.0 ≤ 16) (f : issue < 64) where
    noted-here : by.0 ≡ gateway.0 → at ≡ issue → is_there gateway issue made line ≡ true → row_at after (row_of gateway issue) ≡ orders_by gateway issue (made ++ line ∷ [])
    noted-here same_gateway same_issue here =
        let same : row_of by at ≡ row_of gateway issue = omega arith in
        let within : row_of by at < length rows = omega (arith, are.count) in
        let noted_row = row_at rows (row_of by at) ++ is_order (Do event) ∷ [] in
        ap (row_at after) (sym same) ∙ get_or-set_same rows (row_of by at) noted_row [] within
        ∙ ap (λ (row : List Bool). row ++ is_order (Do event) ∷ []) (ap (row_at rows) same ∙ are.each gateway issue l f)
        ∙ sym (orders_by-here gateway issue made line here)

    noted-elsewhere : row_of gateway issue ≢ row_of by at → is_there gateway issue made line ≡ false → row_at after (row_of gateway issue) ≡ orders_by gateway issue (made ++ line ∷ [])
    noted-elsewhere other not =
        get_or-set_other rows (row_of by at) (row_of gateway issue) _ [] other ∙ are.each gateway issue l f ∙ sym (orders_by-elsewhere gateway issue made line not)

    noted-each : ((by.0 == gateway.0 ≡ true) × (by.0 ≡ gateway.0)) ⊎ ((by.0 == gateway.0 ≡ false) × (by.0 ≢ gateway.0)) → ((at == issue ≡ true) × (at ≡ issue)) ⊎ ((at == issue ≡ false) × (at ≢ issue))
        → row_at after (row_of gateway issue) ≡ orders_by gateway issue (made ++ line ∷ [])
    noted-each (inl (t, same)) (inl (u, here)) = noted-here same here (rw (t, u) refl)
    noted-each (inl (t, same)) (inr (u, other)) = noted-elsewhere (omega arith) (rw (t, u) refl)
    noted-each (inr (t, other)) told = noted-elsewhere (omega arith) (rw t refl)

  AreRowsOf-noted : AreRowsOf after (made ++ line ∷ [])
  AreRowsOf-noted = record {
    count = length-set rows (row_of by at) _ ∙ are.count;
    each = λ gateway issue l f. noted-each gateway issue l f (eqb_tells by.0 gateway.0) (eqb_tells at issue);
  }

-- after a line more the rows tell the orders again
pub AreRowsOf-push : (rows : List (List Bool)) (made : List GatewayScriptLine) (line : GatewayScriptLine) → AreRowsOf rows made → line.gateway.0 ≤ 16 → line.line.issue < 64
    → AreRowsOf (noted rows line.gateway line.line.issue line.line.act) (made ++ line ∷ [])
AreRowsOf-push rows made line are low few = by_act line.line.act
  where
    no_event : (b : Bool) → b && false ≡ false
    no_event true = refl
    no_event false = refl

    by_act : (act : Act) → AreRowsOf (noted rows line.gateway line.line.issue act) (made ++ record line { line = record line.line { act = act } } ∷ [])
    by_act (Do event) = AreRowsOf-noted rows made are line.gateway line.line.line line.line.stage line.line.issue event low few
    by_act Show = record {
      count = are.count;
      each = λ gateway issue l f. are.each gateway issue l f ∙ sym (orders_by-elsewhere gateway issue made (record line { line = record line.line { act = Show } }) (no_event _));
    }
