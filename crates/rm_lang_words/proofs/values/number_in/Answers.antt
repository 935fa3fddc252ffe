use Rattle.std.proofs.{Common.{arith, sym, true, false, ◌∙◌, ℕ, Ok, Err}, lemmas.Str.Parse.{parse_digits}}
use Rattle.rm_lang_words.proofs.Numbers.{decided, own, refused}
use Rattle.rm_lang_words.proofs.values.number_in.Goals as goal

pub returns-then-is_between-clause-is : goal.returns-then-is_between-clause-is
returns-then-is_between-clause-is c =
    let digits = sym c.are_digits.ensures ∙ c.if-not-are_digits.false in
    let read = parse_digits own {E = ℕ} 64 c.args.text.now (Ok c.in-Ok.number) c.in-Ok.ensures.value.0 digits in
    decided c.args.low c.args.high c.args.text.now c.in-Ok.number true digits read.0.0 read.1 (sym c.is_between.ensures ∙ c.if-is_between.true)

pub returns-else-is_between-clause-is : goal.returns-else-is_between-clause-is
returns-else-is_between-clause-is c =
    let digits = sym c.are_digits.ensures ∙ c.if-not-are_digits.false in
    let read = parse_digits own {E = ℕ} 64 c.args.text.now (Ok c.in-Ok.number) c.in-Ok.ensures.value.0 digits in
    decided c.args.low c.args.high c.args.text.now c.in-Ok.number false digits read.0.0 read.1 (sym c.is_between.ensures ∙ c.if-is_between.false)

pub returns-in-Err-clause-is : goal.returns-in-Err-clause-is
returns-in-Err-clause-is c =
    let digits = sym c.are_digits.ensures ∙ c.if-not-are_digits.false in
    let read = parse_digits own 64 c.args.text.now (Err c.in-Err.field-0) c.in-Err.ensures.value.0 digits in
    refused c.args.low c.args.high c.args.text.now (λ some low high. read (some, omega arith))
