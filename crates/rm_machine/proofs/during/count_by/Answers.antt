use Rattle.std.proofs.{Common.{rules, tests, ◌≡◌, ◌∙◌, ◌==◌, List, sym, filter, length}, lemmas.Iterator.{YieldsList-from_slice}}
use Rattle.std.proofs.lemmas.{Iterator.Consumers.{YieldsList-from_filter, count_from_yields_List}, List.{length-map}}
use Rattle.rm_lang_statement.specs.declared.command.WriteForm.{WriteForm}
use Rattle.rm_machine.specs.Asked.{write_job}
use Rattle.rm_machine.proofs.during.count_by.Goals as goal

pub returns : goal.returns
returns c =
    let kept : List WriteForm = filter (λ (w : WriteForm). w.thread == c.args.thread) c.args.writes.now in
    let counted : c.count.result ≡ length kept =
    count_from_yields_List c.filter.result c.count.result c.count.ensures.ran
    (YieldsList-from_filter _ (λ (w : WriteForm). w.thread == c.args.thread) (YieldsList-from_slice c.args.writes.now cc) c.filter.ensures.closure (λ x r q k. search (rules, tests))) in
    counted ∙ sym (length-map kept write_job)
