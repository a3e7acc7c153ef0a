use Rattle.gateway.proofs.Running.{so-far-begins, so-far-desks, so-far-more, so-far-ran, so-far-rest, so-far-takes}
use Rattle.std.proofs.Common.{sym, ◌∙◌}
use Rattle.gateway.proofs.run.Gateway.run.Goals as goal

pub loop-self-init : goal.loop-self-init
loop-self-init g c = so-far-begins g.D.Desk.state g.D.Desk.fixed g.D.Desk.tells c.args.stage c.args.self.now c.args.desks.now c.requires.next

pub do_next-requires-clause-desks : goal.do_next-requires-clause-desks
do_next-requires-clause-desks g c =
    so-far-desks g.D.Desk.state g.D.Desk.fixed g.D.Desk.tells c.args.stage c.args.self.now c.loop-self.self c.args.desks.now c.loop-self.desks c.loop-self.invariant c.requires.desks

pub do_next-requires-clause-takes : goal.do_next-requires-clause-takes
do_next-requires-clause-takes g c =
    so-far-takes g.D.Desk.state g.D.Desk.fixed g.D.Desk.tells c.args.stage g.D.Desk.takes c.args.self.now c.loop-self.self c.args.desks.now c.loop-self.desks c.loop-self.invariant c.requires.desks c.requires.takes

pub loop-self-preserved : goal.loop-self-preserved
loop-self-preserved g c =
    so-far-more g.D.Desk.state g.D.Desk.fixed g.D.Desk.tells c.args.stage c.args.self.now c.loop-self.self c.do_next.new.self c.args.desks.now c.loop-self.desks c.do_next.new.desks c.loop-self.invariant
    (sym c.is_next_in.ensures.next ∙ c.loop-self-test.true) c.is_next_in.ensures.stages c.do_next.ensures.caller c.do_next.ensures.did.0 c.do_next.ensures.did.1 c.do_next.ensures.did.2

pub returns-clause-rest : goal.returns-clause-rest
returns-clause-rest g c =
    so-far-rest g.D.Desk.state g.D.Desk.fixed g.D.Desk.tells c.args.stage c.args.self.now c.loop-self.self c.args.desks.now c.loop-self.desks c.loop-self.invariant
    (sym c.is_next_in.ensures.next ∙ c.loop-self-test.false) c.is_next_in.ensures.stages

pub returns-clause-ran : goal.returns-clause-ran
returns-clause-ran g c =
    so-far-ran g.D.Desk.state g.D.Desk.fixed g.D.Desk.tells c.args.stage c.args.self.now c.loop-self.self c.args.desks.now c.loop-self.desks c.loop-self.invariant
    (sym c.is_next_in.ensures.next ∙ c.loop-self-test.false) c.is_next_in.ensures.stages
