use Rattle.std.specs.Global.{Global}
use Rattle.std.proofs.Common.{◌≡◌, ◌∙◌, ◌++◌, ◌+◌, ◌-◌, ◌/◌, ℕ, List, Vec, length, take, drop, refl, sym, ap, subst, length-append, rules, arith}
use Rattle.std.proofs.lemmas.List.{length-map}
use Rattle.rm_live.specs.{Passes.{Standing}, Ruled.{half}}
use Rattle.rm_channel.specs.{Jobs.{lists}, Runs.{CanRun, HasRun}, Sections.{sections}, declared.jobs.WriteJob.{WriteJob}}
use Rattle.rm_channel.{specs.declared.working.Share.{Share}, proofs.Halves.{run-both}}
use Rattle.rm_channel.proofs.Split.{as-half, front-falls, back-falls, can-front, can-back, first-half, second-half, is-cut, lists-both, right-is, rows-even, run-share, split-halves}
use Rattle.rm_channel.proofs.copying.+fn-run-join+arg2+fn-run-join+arg3+run.Goals as goal

pub join-all-requires-after_bounds : goal.join-all-requires-after_bounds
join-all-requires-after_bounds g t c κs within =
    let p : Standing = c.args.pass in
    let share : Share = c.args.share in
    let front : List (Vec WriteJob Global) = c.split_at.result.0.now in
    let back : List (Vec WriteJob Global) = c.split_at.result.1.now in
    let k : ℕ = c.min-cut.result in
    let whole : front ++ back ≡ c.args.writers.now = search rules in
    let parts = lists-both front back c.args.writers.now whole in
    let can = subst (λ (ws : List (List WriteJob)). CanRun p c.args.live.now c.args.jobs.now ws share) (sym parts) c.requires in
    let long = length-map front (λ (v : Vec WriteJob Global). v.items) in
    let long' = length-map back (λ (v : Vec WriteJob Global). v.items) in
    let all = length-map c.args.writers.now (λ (v : Vec WriteJob Global). v.items) in
    let kept = c.split-other.ensures.kept in
    let given = c.split-other.ensures.given in
    let room = first-half p c.split-other.new.pass kept in
    let room' = second-half p c.split-other.result given in
    let cut = is-cut (share.to - share.from) (length c.args.writers.now) (length p.numbers) (share.to - share.from + length c.args.writers.now - (share.to - share.from + length c.args.writers.now) / 2) k (length front)
    (omega arith) (λ is. omega arith) (omega arith) refl (omega arith) (omega arith) in
    let front_can : CanRun c.split-other.new.pass c.args.live.now c.args.jobs.now (lists front) c.front-left.result =
    can-front p c.split-other.new.pass c.args.live.now c.args.jobs.now (lists front) (lists back) share c.front-left.result k can (as-half p c.split-other.new.pass (take (half p.numbers) p.numbers) kept) c.front-left.ensures
    (let e = cut.sections in omega arith) (let e = cut.front in omega arith) (let e = cut.front_room in omega arith) in
    let back_can : CanRun c.split-other.result c.args.live.now c.args.jobs.now (lists back) c.back-right.result =
    can-back p c.split-other.result c.args.live.now c.args.jobs.now (lists front) (lists back) share c.back-right.result k can (as-half p c.split-other.result (drop (half p.numbers) p.numbers) given)
    (right-is share c.back-right.result k front c.back-right.ensures) (let e = cut.sections in omega arith) (let e = cut.back in omega arith) (let e = cut.back_room in omega arith) in
    let front_falls = front-falls share c.front-left.result (length c.args.writers.now) (length p.numbers) k (length front) t cut c.front-left.ensures c.decreases in
    let back_falls = back-falls share c.back-right.result (length c.args.writers.now) (length p.numbers) k (length front) (length back) _ t cut c.back-right.ensures (sym (length-append front back) ∙ ap length whole) c.decreases in
    ((front_falls, ((λ a m. m), ((λ a m. m), (front_can, (search rules, search rules))))), (back_falls, ((λ a m. m), ((λ a m. m), (back_can, (search rules, search rules))))))

pub gathered-requires : goal.gathered-requires
gathered-requires g t c =
    let left : Share = c.front-left.result in
    let right : Share = c.back-right.result in
    rows-even left.channels left.from left.to right.channels right.from right.to c.args.jobs.now c.join-all.result.0.1 c.join-all.result.1.1 c.join-all.ensures.first.1.rows c.join-all.ensures.second.1.rows

pub returns-clause-run : goal.returns-clause-run
returns-clause-run g t c =
    let p : Standing = c.args.pass in
    let share : Share = c.args.share in
    let front : List (Vec WriteJob Global) = c.split_at.result.0.now in
    let back : List (Vec WriteJob Global) = c.split_at.result.1.now in
    let k : ℕ = c.min-cut.result in
    let kept = c.split-other.ensures.kept in
    let given = c.split-other.ensures.given in
    let one = c.join-all.ensures.first in
    let two = c.join-all.ensures.second in
    let left : Share = record share { to = share.from + k } in
    let right : Share = record share { from = share.from + k; thread = share.thread + length (lists front) } in
    let first = run-share c.split-other.new.pass c.join-all.result.0.0.seen c.args.jobs.now (lists front) c.join-all.result.0.1 c.front-left.result left c.front-left.ensures one.1 in
    let second = run-share c.split-other.result c.join-all.result.1.0.seen c.args.jobs.now (lists back) c.join-all.result.1.1 c.back-right.result right (right-is share c.back-right.result k front c.back-right.ensures) two.1 in
    let j = c.join.ensures in
    let halves = split-halves p c.split-other.new.pass c.split-other.result c.join-all.result.0.0 c.join-all.result.1.0 c.join.new.pass kept given one.0 two.0 j.both j.legal j.below j.numbers j.mine j.theirs in
    subst (λ (ws : List (List WriteJob)). HasRun p c.join.new.pass.seen (sections share.channels share.from share.to c.args.jobs.now) share.thread ws c.gathered.result)
    (lists-both front back c.args.writers.now (search rules))
    (run-both p c.split-other.new.pass c.split-other.result c.join-all.result.0.0 c.join-all.result.1.0 c.join.new.pass share.channels share.from (share.from + k) share.to c.args.jobs.now share.thread (lists front) (lists back)
    c.join-all.result.0.1 c.join-all.result.1.1 c.gathered.result (omega arith) (omega arith) (omega arith)
    halves first second c.gathered.ensures)
