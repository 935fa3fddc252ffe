use Rattle.std.specs.Global.{Global}
use Rattle.std.proofs.Common.{◌≡◌, ◌∙◌, Ok, ◌+◌, ◌++◌, ◌<◌, ◌/◌, ℕ, List, Vec, All, length, length-append, ap, subst, sym, take, drop, rules, arith}
use Rattle.std.proofs.lemmas.List.{length-map}
use Rattle.rm_base.specs.declared.faults.NoMemory.{NoMemory}
use Rattle.rm_live.specs.{Parts.{Parts}, Passes.{Standing}, Ruled.{half}}
use Rattle.rm_channel.{specs.{Jobs.{lists}, Runs.{HasWritten}, declared.jobs.WriteJob.{WriteJob}}, proofs.Shares.{no-lists}}
use Rattle.rm_channel.proofs.Split.{as-half, first-half, lists-both, second-half, split-halves}
use Rattle.rm_repair.specs.Mended.{CanGo, HasBlock, HasMendedBeside, IsOlder}
use Rattle.rm_repair.proofs.Beside.{back-room, beside-both, beside-none, can-back, can-front, front-room, some-by}
use Rattle.rm_repair.proofs.mending.+fn-mend_beside-join+arg2+mend_beside.Goals as goal

pub returns-then-is_empty-clause-mended : goal.returns-then-is_empty-clause-mended
returns-then-is_empty-clause-mended g t c =
    subst (λ (ws : List (List WriteJob)). HasMendedBeside {E = NoMemory} c.args.pass c.mend_all.new.pass.seen c.args.jobs.now c.args.thread ws (Ok c.new.result)) (no-lists c.args.writers.now (search rules))
    (beside-none c.args.pass c.mend_all.new.pass.seen c.args.jobs.now c.args.thread c.new.result c.new.ensures.items c.mend_all.ensures.did)

pub join-all-requires-after_bounds : goal.join-all-requires-after_bounds
join-all-requires-after_bounds g t c κs within =
    let p : Standing = c.args.pass in
    let front : List (Vec WriteJob Global) = c.split_at.result.0.now in
    let back : List (Vec WriteJob Global) = c.split_at.result.1.now in
    let whole : front ++ back ≡ c.args.writers.now = search rules in
    let can = subst (CanGo p c.args.live.now 1 c.args.thread) (sym (lists-both front back c.args.writers.now whole)) c.requires.can in
    let kept = c.split-other.ensures.kept in
    let given = c.split-other.ensures.given in
    let long : length (lists front) ≡ length front = length-map front (λ (v : Vec WriteJob Global). v.items) in
    let long' : length (lists back) ≡ length back = length-map back (λ (v : Vec WriteJob Global). v.items) in
    let sum : length front + length back ≡ length c.args.writers.now = sym (length-append front back) ∙ ap length whole in
    let some : 0 < length c.args.writers.now = some-by (length c.args.writers.now) (sym c.is_empty.ensures ∙ c.if-is_empty.false) in
    let cut : length front ≡ length c.args.writers.now / 2 = search rules in
    let room = c.requires.can.numbers in
    let all = length-map c.args.writers.now (λ (v : Vec WriteJob Global). v.items) in
    let one = front-room (length p.numbers) (length c.args.writers.now) (length front) (omega arith) cut in
    let two = back-room (length p.numbers) (length c.args.writers.now) (length front) (length back) (omega arith) cut sum in
    let first = first-half p c.split-other.new.pass kept in
    let second = second-half p c.split-other.result given in
    let opening = ap (λ (s : Standing). s.opening) kept in
    let front_can = can-front p c.split-other.new.pass c.args.live.now c.args.thread (lists front) (lists back) can (as-half p c.split-other.new.pass (take (half p.numbers) p.numbers) kept) (omega (arith, one, first, long)) in
    let back_can = can-back p c.split-other.result c.args.live.now c.args.thread (lists front) (lists back) can (as-half p c.split-other.result (drop (half p.numbers) p.numbers) given) (omega (arith, two, second, long')) in
    let there = subst (λ (o : Parts). All (HasBlock o.files) c.args.jobs.now) (sym opening) c.requires.there in
    let older = subst (λ (o : Parts). All (IsOlder o.now) c.args.jobs.now) (sym opening) c.requires.older in
    let falls : length front < t = let d = c.decreases in omega (arith, d, cut, some) in (
      (falls, ((λ a m. m), ((front_can, there, older), search rules))),
      ((subst (λ (n : ℕ). CanGo c.split-other.result c.args.live.now 0 (c.args.thread + n) (lists back)) long back_can, omega (arith, cut, sum, some)), search rules),
    )

pub returns-clause-mended : goal.returns-clause-mended
returns-clause-mended g t c =
    let p : Standing = c.args.pass in
    let front : List (Vec WriteJob Global) = c.split_at.result.0.now in
    let back : List (Vec WriteJob Global) = c.split_at.result.1.now in
    let one = c.join-all.ensures.first in
    let two = c.join-all.ensures.second in
    let j = c.join.ensures in
    let long : length front ≡ length (lists front) = sym (length-map front (λ (v : Vec WriteJob Global). v.items)) in
    let written = subst (λ (n : ℕ). HasWritten c.split-other.result c.join-all.result.1.0.seen (c.args.thread + n) (lists back) c.join-all.result.1.1) long two.1 in
    let halves = split-halves p c.split-other.new.pass c.split-other.result c.join-all.result.0.0 c.join-all.result.1.0 c.join.new.pass c.split-other.ensures.kept c.split-other.ensures.given one.0 two.0 j.both j.legal j.below j.numbers j.mine j.theirs in
    subst (λ (ws : List (List WriteJob)). HasMendedBeside p c.join.new.pass.seen c.args.jobs.now c.args.thread ws c.gathered.result) (lists-both front back c.args.writers.now (search rules))
    (beside-both p c.split-other.new.pass c.split-other.result c.join-all.result.0.0 c.join-all.result.1.0 c.join.new.pass c.args.jobs.now c.args.thread (lists front) (lists back) c.join-all.result.0.1 c.join-all.result.1.1 c.gathered.result
    halves one.1 written c.gathered.ensures)
