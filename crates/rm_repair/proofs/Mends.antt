-- Mends by one worker.
use Rattle.std.proofs.Common.{◌≡◌, ◌∙◌, ◌+◌, ◌<◌, ℕ, Bool, true, Option, Some, None, IsSome, is_some, List, [], ◌∷◌, ◌++◌, filter, get_or, length, map, take, refl, ap, subst, sym, arith}
use Rattle.std.proofs.lemmas.List.{take_more}
use Rattle.rm_base.specs.declared.block.Row.{Row}
use Rattle.rm_live.specs.{History.{IsLegal}, Parts.{Parts, row_at}, Passes.{Adds, IsLater, Standing}, Ruled.{Below}}
use Rattle.rm_live.specs.declared.history.{Answer.TheVariants.{Mended}, Call.{Call, TheVariants.{Mend}}, Event.{Event}}
use Rattle.rm_channel.{specs.{Jobs.{Deed}, Made.{Did, call, is_by}}, proofs.{Counts.{NoWrites}, Steps.{did-one, did-then, legal-behind}}}
use Rattle.rm_channel.proofs.There.{there-fold}
use Rattle.rm_repair.specs.{Mended.{HasBlock, mended, mends}, declared.jobs.MendJob.{MendJob}}

mended-append : (xs ys : List MendJob) → mended (xs ++ ys) ≡ mended xs ++ mended ys
mended-append [] ys = refl
mended-append (x ∷ xs) ys = ap (λ (ds : List Deed). (Mend x.file x.row, Mended true) ∷ ds) (mended-append xs ys)

pub calls-mended : (jobs : List MendJob) → map call (mended jobs) ≡ mends jobs
calls-mended [] = refl
calls-mended (j ∷ jobs) = ap (λ (cs : List Call). Mend j.file j.row ∷ cs) (calls-mended jobs)

pub none-by : (jobs : List MendJob) (t : ℕ) → filter (is_by t) (mends jobs) ≡ []
none-by [] t = refl
none-by (j ∷ jobs) t = none-by jobs t

pub no-writes : (jobs : List MendJob) → NoWrites (mends jobs)
no-writes [] = refl
no-writes (j ∷ jobs) = let h = no-writes jobs in omega arith

is-some : (o : Option Row) → IsSome o → is_some o ≡ true
is-some None there = absurd (cc there)
is-some (Some row) there = refl

-- a block that is there is mended
made-there : (p q : Standing) (f : ℕ) (row : Row) (made : Bool) → IsLater p q → IsLegal q.opening q.seen → Adds p (Mend f row) (Mended made) q.seen → IsSome (row_at p.opening.files f row.block) → made ≡ true
made-there p q f row made later legal adds there =
    let front : List Event = p.seen ++ adds.0 in
    let legal' = subst (IsLegal p.opening) adds.1 (subst (λ (o : Parts). IsLegal o q.seen) (ap (λ (s : Standing). s.opening) later) legal) in
    let right = (legal-behind p.opening front _ legal').0 in
    right.0 ∙ is-some (row_at _ f row.block) (there-fold p.opening front f row.block there)

-- one mend more
pub mended-more : (p q r : Standing) (n : ℕ) (jobs : List MendJob) (d : MendJob) (made : Bool) → n < length jobs → 0 < length q.numbers → IsLater p q → IsLater q r → IsLegal r.opening r.seen → Below r.passes r.seen
    → Adds q (Mend (get_or jobs n d).file (get_or jobs n d).row) (Mended made) r.seen → HasBlock q.opening.files (get_or jobs n d) → Did p q.seen (mended (take n jobs)) → Did p r.seen (mended (take (n + 1) jobs))
mended-more p q r n jobs d made inside some_number later next legal low adds there did =
    let j : MendJob = get_or jobs n d in
    let is = made-there q r j.file j.row made next legal adds there in
    let one : Did q r.seen ((Mend j.file j.row, Mended true) ∷ []) = subst (λ (b : Bool). Did q r.seen ((Mend j.file j.row, Mended b) ∷ [])) is (did-one q r (Mend j.file j.row) (Mended made) some_number next legal low adds) in
    subst (Did p r.seen) (sym (ap mended (take_more jobs n d inside) ∙ mended-append (take n jobs) (j ∷ []))) (did-then p q r.seen (mended (take n jobs)) ((Mend j.file j.row, Mended true) ∷ []) later did one)
