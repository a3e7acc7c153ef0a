use Rattle.std.proofs.Common.{ap, sym, arith}
use Rattle.script_file.specs.Commands.{command_of}
use Rattle.script_file.proofs.CommandLemmas.{six-bytes}
use Rattle.script_file.proofs.commands.command_of.Goals as goal

pub returns-in-change : goal.returns-in-change
returns-in-change c =
    sym
    (ap command_of
    (six-bytes c.args.word.now 99 104 97 110 103 101 (omega arith) (omega arith) (omega arith) (omega arith) (omega arith) (omega arith) (omega arith)))

pub returns-in-cancel : goal.returns-in-cancel
returns-in-cancel c =
    sym
    (ap command_of
    (six-bytes c.args.word.now 99 97 110 99 101 108 (omega arith) (omega arith) (omega arith) (omega arith) (omega arith) (omega arith) (omega arith)))

pub returns-in-rejoin : goal.returns-in-rejoin
returns-in-rejoin c =
    sym
    (ap command_of
    (six-bytes c.args.word.now 114 101 106 111 105 110 (omega arith) (omega arith) (omega arith) (omega arith) (omega arith) (omega arith) (omega arith)))
