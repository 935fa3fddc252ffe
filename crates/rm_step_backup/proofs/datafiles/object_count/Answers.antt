use Rattle.std.proofs.Common.{◌≡◌, ◌≤◌, ◌+◌, ◌/◌, ◌%◌, ◌∙◌, IfSome, arith, min, rules, sym}
use Rattle.rm_step_backup.proofs.Objects.{pieces-many, sets-many}
use Rattle.rm_step_backup.proofs.datafiles.object_count.Goals as goal

pub div_ceil-requires : goal.div_ceil-requires
div_ceil-requires c =
    let some : 1 ≤ c.in-Some.most = coe 0 1 (i. IfSome (c.in-Some.is i) (λ n. 1 ≤ n)) c.requires.some in
    let same : c.from.result ≡ c.in-Some.most = search rules in
    omega (arith, some, same)

pub returns-in-Some : goal.returns-in-Some
returns-in-Some c =
    let some : 1 ≤ c.in-Some.most = coe 0 1 (i. IfSome (c.in-Some.is i) (λ n. 1 ≤ n)) c.requires.some in
    let same : c.from.result ≡ c.in-Some.most = search rules in
    let files = c.taken_count-files.ensures in
    c.div_ceil.ensures ∙ (λ i. files i / same i + min 1 (files i % same i)) ∙ sym (sets-many c.args.state.now c.args.form.now c.in-Some.most c.in-Some.is some)

pub returns-in-None : goal.returns-in-None
returns-in-None c = c.taken_count-files.ensures ∙ sym (pieces-many c.args.state.now c.args.form.now c.in-None.is)
