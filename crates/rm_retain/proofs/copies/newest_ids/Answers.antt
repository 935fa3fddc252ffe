use Rattle.std.proofs.Common.{◌<◌, ◌∙◌, nat_lt, ℕ, List, sym, subst, arith, ap, map, filter, length, take_all, AllPairs}
use Rattle.rm_retain.specs.{Chosen.{is_among, newest, rank}, declared.copies.Backup.{Backup}}
use Rattle.rm_retain.proofs.{ByAge.{newest_is, newest_none, short_of}, Ranks.{ascend_filter, ids_ascend, rising_from}}
use Rattle.rm_retain.proofs.copies.newest_ids.Goals as goal

pub returns-then-wanted-eq0-clause-exact : goal.returns-then-wanted-eq0-clause-exact
returns-then-wanted-eq0-clause-exact c =
    c.new-ids.ensures.items ∙ ap (map (λ (x : Backup). x.id)) (sym (newest_none c.args.copies.now (rising_from c.args.copies.now c.requires.ascend) c.args.wanted c.if-wanted-eq0.true))

pub returns-clause-exact : goal.returns-clause-exact
returns-clause-exact c =
    let xs = c.args.copies.now in
    let last = c.in_ok-last.last in
    c.loop-x.invariant
    ∙ ap (λ (ys : List Backup). map (λ (x : Backup). x.id) (filter (is_among last) ys)) (take_all c.loop-x.x-index xs c.loop-x-test.false)
    ∙ ap (map (λ (x : Backup). x.id)) (newest_is xs (rising_from xs c.requires.ascend) c.args.wanted last (sym c.in_ok-last.ensures.exact) (short_of c.args.wanted (length xs) last c.in_ok-last.ensures.few c.if-wanted-eq0.false))

pub returns-then-wanted-eq0-clause-ascends : goal.returns-then-wanted-eq0-clause-ascends
returns-then-wanted-eq0-clause-ascends c = subst (λ (ids : List ℕ). AllPairs (λ i j. i < j) ids) (sym c.new-ids.ensures.items) (λ i j d less inside. absurd (omega arith))

pub returns-clause-ascends : goal.returns-clause-ascends
returns-clause-ascends c =
    let xs = c.args.copies.now in
    subst (λ (ids : List ℕ). AllPairs (λ i j. i < j) ids) (sym (returns-clause-exact c))
    (ids_ascend (newest c.args.wanted xs) (ascend_filter (λ x. nat_lt (rank xs x) c.args.wanted) xs c.requires.ascend))
