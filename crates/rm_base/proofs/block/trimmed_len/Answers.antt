use Rattle.std.proofs.{Common.{◌≡◌, ◌+◌, ◌++◌, ◌∷◌, [], ◌∙◌, take, ap, sym, arith, get_or}, lemmas.Bool.{eq-eqb, ne_eqb}}
use Rattle.std.proofs.lemmas.List.{take_more}
use Rattle.rm_base.{specs.Content.{trimmed}, proofs.Contents.{trimmed-zero, trimmed-other}}
use Rattle.rm_base.proofs.block.trimmed_len.Goals.{then-byte-ne0, else-byte-ne0}
use Rattle.rm_base.proofs.block.trimmed_len.Goals as goal

pub loop-i-preserved : goal.loop-i-preserved
loop-i-preserved c =
    let xs = c.args.bytes.now in
    let i = c.loop-i.i in
    let x = get_or xs i 0 in
    let more : take (i + 1) xs ≡ take i xs ++ x ∷ [] = take_more xs i 0 c.loop-i-test.true in
    elim c.if-byte-ne0.branch [
      | then-byte-ne0 w ↦ record {
        within = omega (arith, w.len-is);
        same = ap (λ n. take n xs) w.len-is ∙ more ∙ sym (ap trimmed more ∙ trimmed-other (take i xs) x (ne_eqb x 0 w.if-byte-ne0.true));
      }
      | else-byte-ne0 w ↦ record {
        within = omega (arith, w.len-is);
        same = ap (λ n. take n xs) w.len-is ∙ c.loop-i.invariant.same ∙ sym (ap trimmed more ∙ trimmed-zero (take i xs) x (eq-eqb x 0 w.if-byte-ne0.false));
      }
    ]
