use Rattle.std.proofs.Common.{◌≡◌, ◌∙◌, true, sym}
use Rattle.rm_standby_store.proofs.Naming.{number-begins, number-read}
use Rattle.rm_standby_store.proofs.names.number_of.Goals as goal

pub returns : goal.returns
returns c k =
    let read = number-read _ c.args.digits.now c.parse.result (c.begins_above_zero.ensures.0 c.if-not-begins_above_zero.false) c.parse.ensures.value.0 k in
    (λ same. read.0 (sym c.ok.ensures.value ∙ same), λ of. c.ok.ensures.value ∙ read.1 of)

pub returns-then-not-begins_above_zero : goal.returns-then-not-begins_above_zero
returns-then-not-begins_above_zero c k = (
  λ same. absurd cc,
  λ of. let above : c.begins_above_zero.result ≡ true = c.begins_above_zero.ensures.1 (number-begins c.args.digits.now k of) in absurd cc,
)
