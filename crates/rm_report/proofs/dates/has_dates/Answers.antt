use Rattle.std.proofs.{Common.{rules, ◌≡◌, ◌∙◌, ◌+◌, ◌++◌, ◌∷◌, [], ap, sym, subst, arith, All, take, length}, Math.Seq.{take-length}}
use Rattle.std.proofs.lemmas.List.{take_more, Elements.{All-append, All-cons, All-nil}}
use Rattle.rm_report.specs.{Reply.{LineHasDate}, declared.line.Line.{Line}}
use Rattle.rm_report.proofs.dates.has_dates.Goals as goal

pub loop-line-preserved : goal.loop-line-preserved
loop-line-preserved c =
    let xs = c.as_slice-line-items.result.now in
    let i = c.loop-line.line-index in
    let x = c.line-item.result in
    let more : take (i + 1) xs ≡ take i xs ++ x ∷ [] = take_more xs i x c.loop-line-test.true ∙ ap (λ (y : Line). take i xs ++ y ∷ []) (sym c.line-item.is) in
    let here : LineHasDate x = search rules in
    subst (All LineHasDate) (sym more) (All-append LineHasDate (take i xs) (x ∷ []) c.loop-line.invariant (All-cons LineHasDate x [] here (All-nil LineHasDate)))

pub returns : goal.returns
returns c =
    let xs = c.as_slice-line-items.result.now in
    let i = c.loop-line.line-index in
    let end : i ≡ length xs = omega (arith, c.loop-line-test.false, c.loop-line.auto.line-index-end) in
    let whole : take i xs ≡ c.args.reply.now.lines = ap (λ n. take n xs) end ∙ take-length xs ∙ c.as_slice-line-items.ensures in
    (λ yes. subst (All LineHasDate) whole c.loop-line.invariant, λ dates. search rules)
