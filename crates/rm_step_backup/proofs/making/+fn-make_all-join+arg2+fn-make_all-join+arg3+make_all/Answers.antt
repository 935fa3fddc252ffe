use Rattle.std.proofs.Common.{◌≡◌, ◌∙◌, ◌++◌, List, map, sym, ap, rules, take-append-drop}
use mathlib.Core.List.{map-append}
use Rattle.rm_step_backup.specs.{Making.{made_by}, declared.{making.Made.{Made}, reading.Read.{Read}}}
use Rattle.rm_step_backup.proofs.making.+fn-make_all-join+arg2+fn-make_all-join+arg3+make_all.Goals as goal

pub returns : goal.returns
returns g t c =
    let f : Read → Made = made_by c.args.state.now c.args.form.now c.args.tag.now c.args.checkpoint in
    let front : List Read = c.split_off.new.self.items in
    let back : List Read = c.in_ok-back.back.items in
    let both : front ++ back ≡ c.args.reads.items = (λ i. c.in_ok-back.ensures.items i ++ c.in_ok-back.ensures.tail i) ∙ take-append-drop _ c.args.reads.items in
    let first : c.in_ok-all.all.items ≡ map f front = search rules in
    let last : c.in_ok-more.more.items ≡ map f back = search rules in
    c.in_ok-append.ensures.items ∙ (λ i. first i ++ last i) ∙ sym (map-append f front back) ∙ ap (map f) both
