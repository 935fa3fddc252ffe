use Rattle.std.proofs.Common.{◌<◌, ◌∙◌, sym, length, arith, codes}
use Rattle.rm_lang_grammar.specs.Spelling.{spelled}
use Rattle.rm_lang_reading.specs.{Creating.{write_part}, Values.{write_values}}
use Rattle.rm_lang.proofs.Listed.{many_push}
use Rattle.rm_lang.proofs.backup.writes.Goals as goal

pub loop-form-preserved : goal.loop-form-preserved
loop-form-preserved c =
    let here : c.loop-form.form-index < length c.args.writes.now = omega arith in
    let told = rw c.loop-form.invariant at (rw c.in_ok-write.ensures at c.in_ok-append.ensures) in
    told ∙ sym (many_push (codes "WRITE") (spelled write_part) write_values c.args.writes.now c.loop-form.form-index _ here)
