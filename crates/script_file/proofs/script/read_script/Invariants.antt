use Rattle.std.proofs.Common.{◌≡◌, ◌+◌, length}
use Rattle.script_file.specs.Reader.{IsScriptBefore}
use Rattle.script_file.specs.Script.{read_lines, script_of}
use Rattle.script_file.proofs.script.read_script.Given as goal

-- the lines that are left say, after the script so far, what the bytes say; and that is a script before the next line
abbrev pub invariant-each_line : goal.invariant-each_line
invariant-each_line l = record { rest : read_lines l.rules l.reader (l.lines.given + 1) l.lines.left ≡ script_of l.rules l.bytes; sound : IsScriptBefore l.rules l.reader (l.lines.given + 1) }

abbrev pub decreases-each_line : goal.decreases-each_line
decreases-each_line l = length l.lines.left
