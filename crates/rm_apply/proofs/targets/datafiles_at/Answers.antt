use Rattle.std.proofs.Common.{◌≡◌, ◌∙◌, ◌<◌, ◌+◌, ◌∷◌, ◌++◌, [], List, Option, IfNone, map, sym, ap, subst, arith}
use Rattle.std.proofs.lemmas.List.{map-append, Elements.{All-push, All-same}}
use Rattle.rm_evidence.specs.Database.{world_of}
use Rattle.rm_history.specs.declared.world.Datafile.{Datafile}
use Rattle.rm_apply.specs.{Files.{AreExactly, IsTargetFile, IsAsked}, declared.targets.TargetFile.{TargetFile}}
use Rattle.rm_apply.proofs.Numbers.{Below, all_numbers, number, one_more, one_past, asked_below}
use Rattle.rm_apply.proofs.targets.datafiles_at.Goals.{in-Some+in_ok-push, in_default}
use Rattle.rm_apply.proofs.targets.datafiles_at.Goals as goal

pub loop-number-preserved : goal.loop-number-preserved
loop-number-preserved c =
    let w = world_of c.args.catalog.now in
    let W = IsAsked w c.args.i c.args.s c.args.only in
    let n = c.loop-number.number in
    let xs = c.loop-number.found in
    let new = c.match-asked.found in
    let was = c.loop-number.invariant in
    elim c.match-asked.branch [
      | in-Some+in_ok-push b ↦
          let x : TargetFile = record { number = n; datafile = b.in-Some.datafile } in
          let some = b.in-Some.ensures.some in
          let is : new ≡ xs ++ x ∷ [] = b.found-is ∙ b.in_ok-push.ensures.ok in
          record {
            numbers = subst (AreExactly (Below W (n + 1))) (sym (ap (λ (ys : List TargetFile). map number ys) is ∙ map-append number xs (x ∷ []))) (one_more W n (map number xs) was.numbers (some.0.1, some.1));
            each = All-same (λ (y : TargetFile). IsTargetFile w c.args.i c.args.s y) new (xs ++ x ∷ []) is (All-push (λ (y : TargetFile). IsTargetFile w c.args.i c.args.s y) xs x was.each some.0);
          }
      | in_default b ↦
          let none = subst (λ (o : Option Datafile). IfNone o (¬ W n)) b.in_default.is c.asked.ensures.none in
          record {
            numbers = subst (AreExactly (Below W (n + 1))) (sym (ap (λ (ys : List TargetFile). map number ys) b.found-is)) (one_past W n (map number xs) was.numbers none);
            each = All-same (λ (y : TargetFile). IsTargetFile w c.args.i c.args.s y) new xs b.found-is was.each;
          }
    ]

pub returns-clause-numbers : goal.returns-clause-numbers
returns-clause-numbers c =
    let n = c.loop-number.number in
    let past : 64 < n = omega (arith, c.loop-number-test.false) in
    all_numbers (IsAsked (world_of c.args.catalog.now) c.args.i c.args.s c.args.only) n (map number c.loop-number.found)
    (asked_below c.args.catalog.now c.args.i c.args.s n c.args.only c.records.ensures.catalog past) c.loop-number.invariant.numbers
