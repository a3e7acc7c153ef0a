use Rattle.std.proofs.Common.{◌+◌, [], length, sym, ap, subst, ◌∙◌, arith}
use Rattle.issue_machine.specs.Journal.{MachineView, MayStep, stepped}
use Rattle.issue_machine.specs.Step.{step}
use Rattle.issue_machine.proofs.EventLemmas.{caller-within, counted-one, entries-few, length-node_step, machine-after, may-take, nodes-computed, own-few, stepped-is}
use Rattle.issue_machine.proofs.machine.Machine.step.Goals as goal

pub take_event-reply-requires-clause-entry : goal.take_event-reply-requires-clause-entry
take_event-reply-requires-clause-entry g c =
    let m : MachineView = record { issue = c.self.inside.floor; participants = c.self.inside.participants; next_own = c.self.inside.next_own } in
    let may : MayStep m c.args.entry.now = subst (λ (x : MachineView). MayStep x c.args.entry.now) (sym c.self.view_is) c.requires in
    may-take m c.args.entry.now c.self.invariant c.stands.ensures.issue may

pub count_entry-requires : goal.count_entry-requires
count_entry-requires g c =
    let m : MachineView = record { issue = c.self.inside.floor; participants = c.self.inside.participants; next_own = c.self.inside.next_own } in
    let may : MayStep m c.args.entry.now = subst (λ (x : MachineView). MayStep x c.args.entry.now) (sym c.self.view_is) c.requires in
    entries-few m c.args.entry.now c.take_event-reply.new.floor c.self.invariant may c.take_event-reply.ensures.replied.move.state

pub overflow_add-self : goal.overflow_add-self
overflow_add-self g c =
    let m : MachineView = record { issue = c.self.inside.floor; participants = c.self.inside.participants; next_own = c.self.inside.next_own } in
    let may : MayStep m c.args.entry.now = subst (λ (x : MachineView). MayStep x c.args.entry.now) (sym c.self.view_is) c.requires in
    omega (arith, own-few m c.args.entry.now c.self.invariant may, c.self.invariant.few, c.self.invariant.bound)

pub offset_bounds-self-inside-from : goal.offset_bounds-self-inside-from
offset_bounds-self-inside-from g c =
    let m : MachineView = record { issue = c.self.inside.floor; participants = c.self.inside.participants; next_own = c.self.inside.next_own } in
    let may : MayStep m c.args.entry.now = subst (λ (x : MachineView). MayStep x c.args.entry.now) (sym c.self.view_is) c.requires in
    omega (arith, caller-within m c.args.entry.now c.self.invariant may, c.from.ensures)

pub bounds-self-inside-from : goal.bounds-self-inside-from
bounds-self-inside-from g c =
    let m : MachineView = record { issue = c.self.inside.floor; participants = c.self.inside.participants; next_own = c.self.inside.next_own } in
    let may : MayStep m c.args.entry.now = subst (λ (x : MachineView). MayStep x c.args.entry.now) (sym c.self.view_is) c.requires in
    omega (arith, caller-within m c.args.entry.now c.self.invariant may, c.from.ensures)

pub invariant_of-self : goal.invariant_of-self
invariant_of-self g c =
    let m : MachineView = record { issue = c.self.inside.floor; participants = c.self.inside.participants; next_own = c.self.inside.next_own } in
    let may : MayStep m c.args.entry.now = subst (λ (x : MachineView). MayStep x c.args.entry.now) (sym c.self.view_is) c.requires in
    machine-after m c.args.entry.now c.take_event-reply.new.floor c.count_entry.new.self c.node_step-nodes.result c.from.result c.self.invariant may c.from.ensures
    (ap length c.node_step-nodes.ensures ∙ length-node_step c.entries.result c.args.entry.now.caller.0 c.args.entry.now.event c.nodes.result (ap length c.nodes.ensures.states ∙ c.nodes.ensures.three))
    c.take_event-reply.ensures.replied.move.state c.count_entry.ensures
    c.take_event-reply.ensures.finish

pub returns-clause-state : goal.returns-clause-state
returns-clause-state g c =
    let m : MachineView = record { issue = c.self.inside.floor; participants = c.self.inside.participants; next_own = c.self.inside.next_own } in
    stepped-is m c.args.entry.now c.take_event-reply.new.floor c.count_entry.new.self c.node_step-nodes.result c.from.result c.from.ensures
    (nodes-computed m.issue.state c.args.entry.now c.entries.result c.nodes.result c.node_step-nodes.result c.entries.ensures c.nodes.ensures.states c.node_step-nodes.ensures)
    c.take_event-reply.ensures.replied.move.state c.count_entry.ensures
    ∙ ap (λ (x : MachineView). stepped x c.args.entry.now) c.self.view_is

pub returns-clause-count : goal.returns-clause-count
returns-clause-count g c =
    let m : MachineView = record { issue = c.self.inside.floor; participants = c.self.inside.participants; next_own = c.self.inside.next_own } in
    let e = c.args.entry.now in
    ap (λ (x : MachineView). x.issue.state.entries)
    (stepped-is m e c.take_event-reply.new.floor c.count_entry.new.self c.node_step-nodes.result c.from.result c.from.ensures
    (nodes-computed m.issue.state c.args.entry.now c.entries.result c.nodes.result c.node_step-nodes.result c.entries.ensures c.nodes.ensures.states c.node_step-nodes.ensures)
    c.take_event-reply.ensures.replied.move.state c.count_entry.ensures)
    ∙ counted-one m e
    ∙ ap (λ (x : MachineView). x.issue.state.entries + 1) c.self.view_is

pub returns-clause-reply : goal.returns-clause-reply
unfolding step
returns-clause-reply g c =
    c.take_event-reply.ensures.replied.reply
    ∙ ap (λ (x : MachineView). (step x.issue.terms c.args.entry.now x.issue.state).reply) c.self.view_is

pub returns-clause-told : goal.returns-clause-told
unfolding step
returns-clause-told g c =
    subst (λ (x : MachineView). g.W.Watch.took c.args.watch.now (step x.issue.terms c.args.entry.now x.issue.state).outputs c.take_event-reply.new.watch) c.self.view_is
    (c.take_event-reply.ensures.replied.move.told c.args.watch.now [] (g.met.W.Watch.begins c.args.watch.now))
