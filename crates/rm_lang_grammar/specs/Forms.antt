-- Forms of statements: a line of the grammar, and the command that it means.
use Rattle.std.specs.Prelude.{◌≡◌, ◌⊎◌, ◌&&◌, List, [], ◌∷◌, Option, Some, None, Bool, true}
use Rattle.rm_lang_token.specs.declared.token.Token.{Token}
use Rattle.rm_lang_grammar.specs.{Grammar.{Grammar, Values, Spells}, Reading.{◌>>=◌, read}, Clear.{clear, closed}, Differ.{differ}}

-- A form of statement, where the commands are of type C. Not all that a line says needs to be a command.
pub record Form (C : Type 0) : Type 0 where
  pub line : Grammar
  pub meaning : Values line → Option C

-- the tokens begin with this command, by this form; rest is behind it
pub record IsBy {C : Type 0} (f : Form C) (c : C) (ts rest : List Token) : Type 0 where
  pub values : Values f.line
  pub spells : Spells f.line values ts rest
  pub means : f.meaning values ≡ Some c

-- by one of the forms
abbrev pub IsByOne : {C : Type 0} → List (Form C) → C → List Token → List Token → Type 0
IsByOne [] c ts rest = ⊥
IsByOne (f ∷ fs) c ts rest = IsBy f c ts rest ⊎ IsByOne fs c ts rest

-- what a line said means, where it is a command
abbrev pub meant : {V C : Type 0} → (V → Option C) → V × List Token → Option (C × List Token)
meant meaning x = meaning x.0 >>= λ c. Some (c, x.1)

-- the command that stands at the front of the tokens in this form, and what is behind it
abbrev pub command_by : {C : Type 0} → Form C → List Token → Option (C × List Token)
command_by f ts = read f.line ts >>= λ x. meant f.meaning x

abbrev pub or_else : {C : Type 0} → Option C → Option C → Option C
or_else (Some c) other = Some c
or_else None other = other

-- the command by the first form that has one
abbrev pub command_in : {C : Type 0} → List (Form C) → List Token → Option (C × List Token)
command_in [] ts = None
command_in (f ∷ fs) ts = or_else (command_by f ts) (command_in fs ts)

-- the same form of something that the command is
abbrev pub as_form : {C D : Type 0} → (C → D) → Form C → Form D
as_form g f = record { line = f.line; meaning = λ v. f.meaning v >>= λ c. Some (g c) }

abbrev pub differs_from : {C : Type 0} → Grammar → List (Form C) → Bool
differs_from g [] = true
differs_from g (f ∷ fs) = differ g f.line && differs_from g fs

-- each line is clear, ends with a sign of its own, and differs from those behind it
abbrev pub are_apart : {C : Type 0} → List (Form C) → Bool
are_apart [] = true
are_apart (f ∷ fs) = (clear f.line [] && closed f.line) && (differs_from f.line fs && are_apart fs)
