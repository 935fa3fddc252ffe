use Rattle.std.{specs.Fmt.{decimal}, proofs.Common.{subst, ◌∙◌, List, ℕ}}
use Rattle.rm_base.specs.Outside.{Appends}
use Rattle.rm_tool.proofs.Lines.{err-after}
use Rattle.rm_tool.proofs.drill.write_part.Goals as goal

pub returns-clause-front : goal.returns-clause-front
returns-clause-front g c =
    let told = g.K.Sink.contents in
    let text = subst (λ (t : List ℕ). Appends (told c.args.sink.now) (told c.write_all.new.sink) t) c.as_bytes.ensures.value c.in_ok-write_all.ensures.ok in
    let front = rw (c.as_bytes-2.ensures.value ∙ c.format.ensures.text) at c.write_all-2.ensures.prefix in
    err-after _ _ _ c.write_all-2.result c.args.text.now (decimal c.args.number) text front
