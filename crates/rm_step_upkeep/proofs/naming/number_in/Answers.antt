use Rattle.std.{specs.Result.{result_ok}, proofs.{Common.{◌∙◌, Some, ap, arith}, lemmas.Fmt.{parse-decimal}}}
use Rattle.std.proofs.lemmas.Str.Pattern.{split_once_first}
use Rattle.rm_step_upkeep.proofs.Read.{named-digits}
use Rattle.rm_step_upkeep.proofs.naming.number_in.Goals as goal

pub returns : goal.returns
returns c id named =
    let split = split_once_first 95 c.args.name.now (Some (c.in-Some.field-0-0, c.in-Some.digits)) c.in-Some.ensures.cases (omega arith) in
    let last = named.number.1 in
    let digits = split.2 ∙ (named-digits c.args.name.now id named).behind in
    let read = parse-decimal 32 id c.in-Some.digits.now c.parse.result (omega (arith, last)) (omega (arith, last)) digits c.parse.ensures.value.0 in
    c.ok.ensures.value ∙ ap result_ok read
