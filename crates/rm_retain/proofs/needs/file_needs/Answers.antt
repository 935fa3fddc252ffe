use Rattle.std.specs.Prelude.{IfSome, IfNone}
use Rattle.std.proofs.Common.{◌≡◌, ◌∙◌, ◌+◌, ◌∷◌, ◌++◌, [], List, Option, Vec, Global, sym, subst, ap, arith}
use Rattle.rm_retain.specs.{Obsolete.{IsOnPath}, Catalogued.{on_copies}, Needs.{IsFileNeed, AreFileNeeds, HaveFileNeeds}}
use Rattle.rm_retain.{specs.declared.file_need.FileNeed.{FileNeed}, proofs.Needed.{more_sound, more_complete, none_complete}}
use Rattle.rm_retain.proofs.needs.file_needs.Goals.{in-Some+in_ok-push, in_default}
use Rattle.rm_retain.proofs.needs.file_needs.Goals as goal

pub loop-file-preserved : goal.loop-file-preserved
loop-file-preserved c =
    let r = on_copies c.args.catalog.now c.args.policy c.args.start c.args.copies.now in
    let file = c.loop-file.file in
    let xs = c.loop-file.found.items in
    elim c.match-branch-2.branch [
      | in-Some+in_ok-push w ↦
          let x = w.in-Some.need in
          let got : IsOnPath r file × IsFileNeed r file x = subst (λ (o : Option FileNeed). IfSome o (λ y. IsOnPath r file × IsFileNeed r file y)) w.in-Some.is c.in_ok-need.ensures.some in
          let items : c.match-branch-2.found.items ≡ xs ++ x ∷ [] = ap (λ (v : Vec FileNeed Global). v.items) w.found-is ∙ w.in_ok-push.ensures.items in
          record {
            sound = subst (λ (ys : List FileNeed). AreFileNeeds r ys) (sym items) (more_sound r file xs x c.loop-file.invariant.sound got);
            complete = subst (λ (ys : List FileNeed). HaveFileNeeds r (file + 1) ys) (sym items) (more_complete r file xs x c.loop-file.invariant.complete got.1.file);
          }
      | in_default w ↦
          let off : ¬ IsOnPath r file = subst (λ (o : Option FileNeed). IfNone o (¬ IsOnPath r file)) w.in_default.is c.in_ok-need.ensures.none in
          let items : c.match-branch-2.found.items ≡ xs = ap (λ (v : Vec FileNeed Global). v.items) w.found-is in
          record {
            sound = subst (λ (ys : List FileNeed). AreFileNeeds r ys) (sym items) c.loop-file.invariant.sound;
            complete = subst (λ (ys : List FileNeed). HaveFileNeeds r (file + 1) ys) (sym items) (none_complete r file xs c.loop-file.invariant.complete off);
          }
    ]

pub returns-clause-complete : goal.returns-clause-complete
returns-clause-complete c f below path =
    let end = c.loop-file-test.false in
    c.loop-file.invariant.complete f (omega (arith, below, end)) path
