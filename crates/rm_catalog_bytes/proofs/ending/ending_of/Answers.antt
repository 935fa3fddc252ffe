use Rattle.std.{specs.Prelude.{IsUtf8}, proofs.Common.{◌≡◌, ◌∙◌, ◌<◌, ◌^◌, List, ℕ, length, ap, sym, subst, arith, rules}}
use Rattle.rm_base.{specs.Number.{eight}, proofs.Fronts.{parted, whole}}
use Rattle.rm_catalog_bytes.specs.{Fits.{EndingFits}, Spelling.{ending_bytes}}
use Rattle.rm_catalog_bytes.proofs.Endings.{length-ending_bytes, ending_same, with_tag, made_of, made_fits, tail_told, letters_told, length-tail}
use Rattle.rm_catalog_bytes.proofs.ending.ending_of.Goals as goal

pub returns-then-bytes-lt58-clause-only : goal.returns-then-bytes-lt58-clause-only
returns-then-bytes-lt58-clause-only c e fits is =
    let len = ap (λ (x : List ℕ). length x) is ∙ length-ending_bytes e fits in
    absurd (omega (arith, len))

pub returns-then-len-count-clause-only : goal.returns-then-len-count-clause-only
returns-then-len-count-clause-only c e fits is =
    let tail = tail_told c.in-Some.front e c.in-Some.count _ c.in-Some.rest.now c.in-Some.ensures.fits c.in-Some.ensures.count fits c.in-Some.ensures.parts is in
    let long = length-tail e c.in-Some.rest.now tail.0 in
    let few = tail.1 in
    let other = c.if-len-count.true in
    absurd (omega (arith, long, few, other))

pub returns-in_err-tag-clause-only : goal.returns-in_err-tag-clause-only
returns-in_err-tag-clause-only c e fits is =
    let parts = parted _ c.in-Some.rest.now c.split_at.result.0.now c.split_at.result.1.now c.split_at.ensures.front c.split_at.ensures.back in
    let same : c.split_at.result.0.now ≡ e.tag = letters_told c.in-Some.front e c.in-Some.count _ c.in-Some.rest.now c.in-Some.ensures.fits c.in-Some.ensures.count fits c.in-Some.ensures.parts is _ _ parts (omega (arith, c.split_at.ensures.front_len)) in
    let utf8 : IsUtf8 c.split_at.result.0.now = subst IsUtf8 (sym same) fits.letters in
    search rules

pub returns-clause-found : goal.returns-clause-found
returns-clause-found c =
    let parts = parted _ c.in-Some.rest.now c.split_at.result.0.now c.split_at.result.1.now c.split_at.ensures.front c.split_at.ensures.back in
    let last : c.split_at.result.1.now ≡ eight c.take_u64-moment.result.0 = whole 8 c.split_at.result.1.now (eight c.take_u64-moment.result.0) _ c.take_u64-moment.ensures.parts (omega arith) c.take_u64-moment.ensures.len in
    made_of c.in-Some.front c.in-Some.count c.args.bytes.now c.in-Some.rest.now c.split_at.result.0.now c.split_at.result.1.now c.in_ok-tag.tag c.take_u64-moment.result.0 c.in-Some.ensures.parts parts last (omega (arith, c.split_at.ensures.front_len)) c.in_ok-tag.ensures.text

pub returns-clause-only : goal.returns-clause-only
returns-clause-only c e fits is =
    let made = with_tag c.in-Some.front c.in_ok-tag.tag c.take_u64-moment.result.0 in
    let found : c.args.bytes.now ≡ ending_bytes made = returns-clause-found c in
    let few : length c.in_ok-tag.tag < 2 ^ 64 = let t = ap (λ (z : List ℕ). length z) c.in_ok-tag.ensures.text in let few = c.in-Some.ensures.count in omega (arith, t, few, c.split_at.ensures.front_len) in
    let letters : IsUtf8 c.in_ok-tag.tag = subst IsUtf8 (sym c.in_ok-tag.ensures.text) c.in_ok-tag.ensures.letters in
    let last : c.take_u64-moment.result.0 < 2 ^ 64 = omega arith in
    let good : EndingFits made = record { front = made_fits c.in-Some.front c.in_ok-tag.tag c.take_u64-moment.result.0 c.in-Some.ensures.fits; tag = few; letters = letters; moment = last } in
    ending_same made e good fits (sym found ∙ is)
