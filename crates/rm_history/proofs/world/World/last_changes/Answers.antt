use Rattle.std.proofs.Common.{rules, ◌≡◌, ◌∷◌, [], ◌∙◌, List, Option, None, Bool, ap, sym, arith, slice_index_or, replicate}
use Rattle.std.proofs.lemmas.List.{get_or-replicate}
use Rattle.rm_base.specs.declared.block.Change.{Change}
use Rattle.rm_history.{specs.State.{concerns}, proofs.States.{latest-on, latest-on-none, latest-on-append}}
use Rattle.rm_history.proofs.world.World.last_changes.Goals as goal

pub loop-change-init : goal.loop-change-init
loop-change-init c =
    let none : Option Change = None in
    let all : c.into_iter-change-iterator.result.iter.rest.now ≡ c.args.history.now =
    ap (λ r. r.iter.rest.now) c.into_iter-change-iterator.ensures.into_iter_gives ∙ ap (λ i. i.rest.now) c.rev-change-items.ensures.source ∙ c.iter.ensures.rest in
    let filled : c.in_ok-last.last.items ≡ replicate c.args.blocks none = search rules in
    record {
      many = search rules;
      each = λ b inside.
          let p : Change → Bool = concerns c.args.self.now c.args.i c.args.s c.args.file b in
          let blank : slice_index_or c.in_ok-last.last.items b None ≡ none = ap (λ (xs : List (Option Change)). slice_index_or xs b None) filled ∙ get_or-replicate c.args.blocks b none none inside in
          ap (λ (xs : List Change). latest-on p xs (slice_index_or c.in_ok-last.last.items b None)) all
          ∙ ap (λ o. latest-on p c.args.history.now o) blank ∙ latest-on-none p c.args.history.now;
    }

pub loop-change-preserved : goal.loop-change-preserved
loop-change-preserved c =
    let rest : List Change = c.next.new.self.iter.rest.now in
    let change : Change = c.in-Some.change.now in
    record {
      many = c.note.ensures.len ∙ c.loop-change.invariant.many;
      each = λ b inside.
          let p : Change → Bool = concerns c.args.self.now c.args.i c.args.s c.args.file b in
          let old : Option Change = slice_index_or c.loop-change.last.items b None in
          ap (λ o. latest-on p rest o) (c.note.ensures.each b (omega (arith, inside, c.loop-change.invariant.many)))
          ∙ sym (latest-on-append p rest (change ∷ []) old)
          ∙ ap (λ (xs : List Change). latest-on p xs old) (sym c.in-Some.ensures.steps)
          ∙ c.loop-change.invariant.each b inside;
    }
