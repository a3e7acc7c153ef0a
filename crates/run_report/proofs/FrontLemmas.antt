-- Whole lines from the front of a text, and lines behind a fault.
use Rattle.std.proofs.Common.{◌≡◌, ℕ, true, List, [], ◌++◌, Option, append-nil, append_assoc, length-append, refl, sym, ap, subst, ◌∙◌, arith}
use Rattle.std.proofs.lemmas.List.{take-append-le}
use Rattle.std.specs.Io.KnownBytes.{Appends}
use Rattle.mkt_io.specs.Printed.{Printed, PrintsLines, before_lines, has_fault, no_lines}
use Rattle.mkt_io.specs.declared.printer.Printer.{Printer}
use Rattle.run_report.specs.Issue.{PrintsFront}

module _ {O : Type 0} {contents : O → Option (List ℕ)} {faults : O → ℕ} where
  -- no line
  pub front_none : {p : Printer O} {text : List ℕ} → PrintsFront contents faults p p text
  front_none {p} {text} = record { same_sink = refl; front = []; rest = text; whole = refl; printed = no_lines }

  -- all lines
  pub front_all : {p q : Printer O} {text : List ℕ} → PrintsLines contents faults p q text → PrintsFront contents faults p q text
  front_all {p} {q} {text} lines = record { same_sink = lines.same_sink; front = text; rest = []; whole = sym (append-nil text); printed = lines }

  -- lines, and then a front part
  pub front_then : {p q r : Printer O} {xs ys : List ℕ} → PrintsLines contents faults p q xs → PrintsFront contents faults q r ys → PrintsFront contents faults p r (xs ++ ys)
  front_then {p} {q} {r} {xs} {ys} lines more = record {
    same_sink = more.same_sink ∙ lines.same_sink;
    front = xs ++ more.front;
    rest = more.rest;
    whole = ap (λ zs. xs ++ zs) more.whole ∙ sym (append_assoc xs more.front more.rest);
    printed = before_lines lines more.printed;
  }

  -- a front part, of a longer text too
  pub front_of_longer : {p q : Printer O} {xs : List ℕ} (ys : List ℕ) → PrintsFront contents faults p q xs → PrintsFront contents faults p q (xs ++ ys)
  front_of_longer {p} {q} {xs} ys front = record {
    same_sink = front.same_sink;
    front = front.front;
    rest = front.rest ++ ys;
    whole = ap (λ zs. zs ++ ys) front.whole ∙ append_assoc front.front front.rest ys;
    printed = front.printed;
  }

  -- the same under another name
  pub same_front : {p q : Printer O} {xs ys : List ℕ} → xs ≡ ys → PrintsFront contents faults p q xs → PrintsFront contents faults p q ys
  same_front {p} {q} e front = let P : List ℕ → Type 0 = λ zs. PrintsFront contents faults p q zs in subst P e front

  -- a printer with a fault says nothing of what stands behind its first part, so any lines more count as printed
  pub printed_behind : {q : Printer O} (from : O) (text more : List ℕ) → has_fault q ≡ true → Printed contents faults from text [] q → Printed contents faults from (text ++ more) [] q
  printed_behind {q} from text more fault printed =
      let h = printed.handed in
      let P : List ℕ → Type 0 = λ xs. Appends (contents from) (contents q.sink.now) xs in
      record {
        handed = record {
          n = h.n;
          within = omega (arith, h.within, length-append text more);
          written = subst P (sym (take-append-le h.n text more h.within)) h.written;
          gathered = λ clean. absurd (cc);
          cause = h.cause;
          count = h.count;
        };
        begun = printed.begun;
      }

  pub lines_behind : {p q : Printer O} {xs : List ℕ} (more : List ℕ) → has_fault q ≡ true → PrintsLines contents faults p q xs → PrintsLines contents faults p q (xs ++ more)
  lines_behind {p} {q} {xs} more fault lines = record {
    same_sink = lines.same_sink;
    printed = λ from text before.
        let P : List ℕ → Type 0 = λ ys. Printed contents faults from ys [] q in
        subst P (append_assoc text xs more) (printed_behind from (text ++ xs) more fault (lines.printed from text before));
  }
