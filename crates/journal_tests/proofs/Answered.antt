-- What is known of an answer, by what was promised of it.
use Rattle.std.specs.Prelude.{IfOk, Result, Ok, Err}

pub if_ok : {A B : Type 0} (P Q : A → Type 0) (answer : Result A B) → ((a : A) → P a → Q a) → IfOk answer P → IfOk answer Q
if_ok P Q (Ok a) more is = more a is
if_ok P Q (Err b) more is = tt
