use Rattle.std.proofs.Common.{◌+◌, [], ◌∷◌, ◌++◌, ap, ◌∙◌, subst, sym}
use Rattle.mirror.specs.Calls.{KeepsAll}
use Rattle.mirror.specs.Members.{AreHeld}
use Rattle.mirror.specs.Mirrored.{Mirrors}
use Rattle.mirror.specs.Replicas.{Replicas}
use Rattle.mirror.proofs.Putting.{appended, appended-keeps, appended-length}
use Rattle.mirror.proofs.nodes.Mirror.append.Goals as goal

pub invariant_of-self-2 : goal.invariant_of-self-2
invariant_of-self-2 g c =
    let before : Replicas = record { first = c.self.inside.first; second = c.self.inside.second; third = c.self.inside.third; length = c.self.inside.entries } in (
      _,
      appended c.encode-rec.result c.in-Some.entries before _ _ _ _ _ _ c.put_all-lost.ensures.first c.put_all-lost.ensures.second
          c.put_all-lost.ensures.third c.in-Some.ensures.held c.self.invariant.0 c.self.invariant.1,
    )

pub returns-clause-kept : goal.returns-clause-kept
returns-clause-kept g c = λ journal h.
    let before : Replicas = record { first = c.self.inside.first; second = c.self.inside.second; third = c.self.inside.third; length = c.self.inside.entries } in
    let held : Mirrors journal before = subst (λ m. Mirrors journal m) (sym c.self.view_is) h in
    subst (λ rec. AreHeld (journal ++ rec ∷ []) c.in-Some.entries c.put_all-lost.new.a c.put_all-lost.new.b c.put_all-lost.new.c) c.encode-rec.ensures.bytes
    (appended c.encode-rec.result c.in-Some.entries before _ _ _ _ _ _ c.put_all-lost.ensures.first c.put_all-lost.ensures.second
    c.put_all-lost.ensures.third c.in-Some.ensures.held journal held)

pub returns-clause-length : goal.returns-clause-length
returns-clause-length g c =
    let before : Replicas = record { first = c.self.inside.first; second = c.self.inside.second; third = c.self.inside.third; length = c.self.inside.entries } in
    appended-length c.encode-rec.result c.in-Some.entries before _ _ _ _ _ _ c.put_all-lost.ensures.first c.put_all-lost.ensures.second
    c.put_all-lost.ensures.third c.in-Some.ensures.held c.self.invariant.0 c.self.invariant.1 ∙ ap (λ m. m.length + 1) c.self.view_is

pub returns-clause-keeps : goal.returns-clause-keeps
returns-clause-keeps g c =
    let before : Replicas = record { first = c.self.inside.first; second = c.self.inside.second; third = c.self.inside.third; length = c.self.inside.entries } in
    let after : Replicas = record { first = c.put_all-lost.new.a; second = c.put_all-lost.new.b; third = c.put_all-lost.new.c; length = c.in-Some.entries } in
    subst (λ m. KeepsAll m after) c.self.view_is
    (appended-keeps c.encode-rec.result c.in-Some.entries before _ _ _ _ _ _ c.put_all-lost.ensures.first c.put_all-lost.ensures.second
    c.put_all-lost.ensures.third c.in-Some.ensures.held c.self.invariant.0 c.self.invariant.1)
