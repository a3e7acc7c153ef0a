-- What the words of the command line ask for.
use Rattle.std.specs.Prelude.{ℕ, Bool, true, false, not, ◌&&◌, ◌==◌, List, [], ◌∷◌, length, Option, Some, None, option_map, Result, Ok, Err, if◌then◌else◌, nat_lt, codes, slice_index}
use Rattle.std.specs.Str.{bytes_eq}
use Rattle.mkt_io.specs.LineFault.{number_in}
use Rattle.mkt_io.specs.declared.fault.LineFault.{LineFault}
use Rattle.market_top.specs.declared.command.Command as rust
use Rattle.market_top.specs.declared.command.Command.TheVariants as variants

-- the commands, each with its numbers and the names of its files
pub data Asked : Type 0 where
  auction : List ℕ → Asked
  check : List ℕ → Asked
  replay : List ℕ → List ℕ → Asked
  replay_made : ℕ → ℕ → List ℕ → Asked
  run : List ℕ → List ℕ → Asked
  audit : List ℕ → List ℕ → Asked
  gen : ℕ → ℕ → Asked

-- a file's name is not empty and does not begin with a dash
abbrev pub is_file_word : List ℕ → Bool
is_file_word word = nat_lt 0 (length word) && not (slice_index word 0 == 45)

-- the commands over one file: `auction FILE` and `check RULES`
unfoldable pub one_file : List ℕ → List ℕ → Option Asked
one_file name file =
    if bytes_eq name (codes "auction") then Some (auction file)
    else (if bytes_eq name (codes "check") then Some (check file)
    else None)

-- the commands over two files: `replay RULES SCRIPT`, `run RULES SCRIPT` and `audit RULES REPORT`
unfoldable pub two_files : List ℕ → List ℕ → List ℕ → Option Asked
two_files name first second =
    if bytes_eq name (codes "replay") then Some (replay first second)
    else (if bytes_eq name (codes "run") then Some (run first second)
    else (if bytes_eq name (codes "audit") then Some (audit first second)
    else None))

-- both numbers, where both are in range
abbrev pub both : Result ℕ LineFault → Result ℕ LineFault → Option (ℕ × ℕ)
both (Ok number) (Ok orders) = Some (number, orders)
both (Ok number) (Err fault) = None
both (Err fault) orders = None

-- the number of a script that is made, 0 to 2,147,483,647, and how many orders it has, 1 to 200,000
unfoldable pub made_numbers : List ℕ → List ℕ → Option (ℕ × ℕ)
made_numbers number orders = both (number_in 0 2147483647 number) (number_in 1 200000 orders)

-- `gen NUMBER ORDERS`
unfoldable pub gen_words : List ℕ → List ℕ → Option Asked
gen_words number orders = option_map (λ (n : ℕ × ℕ). gen n.0 n.1) (made_numbers number orders)

-- the commands of three words
unfoldable pub three_words : List ℕ → List ℕ → List ℕ → Option Asked
three_words name first second =
    if bytes_eq name (codes "gen") then gen_words first second
    else (if is_file_word first && is_file_word second then two_files name first second else None)

-- `replay --gen NUMBER ORDERS RULES`
unfoldable pub five_words : List ℕ → List ℕ → List ℕ → List ℕ → List ℕ → Option Asked
five_words name flag number orders rules =
    if bytes_eq name (codes "replay") && bytes_eq flag (codes "--gen") && is_file_word rules
    then option_map (λ (n : ℕ × ℕ). replay_made n.0 n.1 rules) (made_numbers number orders)
    else None

-- the command that the words are; any other words are refused
unfoldable pub command_of : List (List ℕ) → Option Asked
command_of (name ∷ file ∷ []) = if is_file_word file then one_file name file else None
command_of (name ∷ first ∷ second ∷ []) = three_words name first second
command_of (name ∷ flag ∷ number ∷ orders ∷ rules ∷ []) = five_words name flag number orders rules
command_of words = None

-- the command `run`, the one that waits
abbrev pub is_run : Option Asked → Bool
is_run (Some (run rules script)) = true
is_run asked = false

-- how many words a command has
abbrev pub word_count : Asked → ℕ
word_count (auction file) = 2
word_count (check rules) = 2
word_count (replay rules script) = 3
word_count (replay_made number orders rules) = 5
word_count (run rules script) = 3
word_count (audit rules report) = 3
word_count (gen number orders) = 3

-- the names of files that a command reads
abbrev pub files_of : Option Asked → List (List ℕ)
files_of None = []
files_of (Some (auction file)) = file ∷ []
files_of (Some (check rules)) = rules ∷ []
files_of (Some (replay rules script)) = rules ∷ script ∷ []
files_of (Some (replay_made number orders rules)) = rules ∷ []
files_of (Some (run rules script)) = rules ∷ script ∷ []
files_of (Some (audit rules report)) = rules ∷ report ∷ []
files_of (Some (gen number orders)) = []

-- the words that name files
abbrev pub file_words : List (List ℕ) → List (List ℕ)
file_words words = files_of (command_of words)

-- the command that a value of the program stands for
abbrev pub asked : rust.Command → Asked
asked (variants.Auction file) = auction file.now
asked (variants.Check rules) = check rules.now
asked (variants.Replay rules script) = replay rules.now script.now
asked (variants.ReplayMade number orders rules) = replay_made number orders rules.now
asked (variants.Run rules script) = run rules.now script.now
asked (variants.Audit rules report) = audit rules.now report.now
asked (variants.Gen number orders) = gen number orders
