-- An ending with its tag.
use Rattle.std.proofs.{Common.{◌≡◌, ◌∙◌, ◌+◌, ◌^◌, ◌<◌, ℕ, List, [], ◌++◌, length, refl, sym, ap, arith}, lemmas.List.{length-append}}
use Rattle.rm_base.{specs.Number.{eight}, proofs.Wide.{length-eight, fronts_same, eight_same}}
use Rattle.rm_catalog_bytes.specs.{Fits.{EndingFits, EndingFrontFits}, Spelling.{flag, status_code, ending_front, ending_bytes}}
use Rattle.rm_catalog_bytes.{specs.declared.ending.Ending.{Ending}, proofs.Bodies.{ending_fields}}
use Rattle.rm_catalog_bytes.proofs.Told.{EndingTold, ending_told, length-ending, flag_same, status_same}

pub front_told : (a b : Ending) (m n : ℕ) (x y : List ℕ) → EndingFrontFits a → EndingFrontFits b → m < 2 ^ 64 → n < 2 ^ 64 → ending_front a m ++ x ≡ ending_front b n ++ y → EndingTold b n a.size (status_code a.status) (flag a.keep) m a.sha x y
front_told a b m n x y fa fb lm ln e =
    ending_told b n a.size (status_code a.status) (flag a.keep) m a.sha x y fb ln fa.size fa.sha lm (sym (ending_fields a m x) ∙ e)

pub length-tail : (e : Ending) (rest : List ℕ) → rest ≡ e.tag ++ eight e.moment → length rest ≡ length e.tag + 8
length-tail e rest is =
    let long = length-append e.tag (eight e.moment) in
    let eights = length-eight e.moment in
    ap (λ (z : List ℕ). length z) is ∙ omega (arith, long, eights)

pub length-ending_bytes : (e : Ending) → EndingFits e → length (ending_bytes e) ≡ 58 + length e.tag
length-ending_bytes e fits =
    let front = length-ending e (length e.tag) fits.front in
    let all = length-append (ending_front e (length e.tag)) (e.tag ++ eight e.moment) in
    let tail = length-tail e _ refl in
    omega (arith, front, all, tail)

pub ending_same : (a b : Ending) → EndingFits a → EndingFits b → ending_bytes a ≡ ending_bytes b → a ≡ b
ending_same a b fa fb e =
    let told = front_told a b (length a.tag) (length b.tag) (a.tag ++ eight a.moment) (b.tag ++ eight b.moment) fa.front fb.front fa.tag fb.tag e in
    let tags = fronts_same a.tag b.tag (eight a.moment) (eight b.moment) told.count told.rest in
    let moments = eight_same a.moment b.moment [] [] fa.moment fb.moment (ap (λ (z : List ℕ). z ++ []) tags.1) in
    let status = status_same a.status b.status told.status in
    let keep = flag_same a.keep b.keep told.keep in
    λ i. record { size = told.size i; sha = told.sha i; status = status i; keep = keep i; tag = tags.0 i; moment = moments.0 i }

-- ---- what reading finds

abbrev pub with_tag : Ending → List ℕ → ℕ → Ending
with_tag e tag moment = record e { tag = tag; moment = moment }

same_front : (e : Ending) (tag : List ℕ) (moment n : ℕ) → ending_front e n ≡ ending_front (with_tag e tag moment) n
unfolding ending_front
same_front e tag moment n = refl

pub made_of : (e : Ending) (count : ℕ) (bytes rest letters more tag : List ℕ) (moment : ℕ) → bytes ≡ ending_front e count ++ rest → rest ≡ letters ++ more → more ≡ eight moment → length letters ≡ count → tag ≡ letters → bytes ≡ ending_bytes (with_tag e tag moment)
made_of e count bytes rest letters more tag moment parts ends last len same =
    let few : count ≡ length tag = sym len ∙ ap (λ (z : List ℕ). length z) (sym same) in
    let tail : rest ≡ tag ++ eight moment = ends ∙ (λ i. sym same i ++ last i) in
    parts ∙ (λ i. ending_front e (few i) ++ tail i) ∙ ap (λ (z : List ℕ). z ++ (tag ++ eight moment)) (same_front e tag moment (length tag))

module _ (e s : Ending) (count : ℕ) (bytes rest : List ℕ) (fits : EndingFrontFits e) (few : count < 2 ^ 64) (is : EndingFits s) (parts : bytes ≡ ending_front e count ++ rest) (same : bytes ≡ ending_bytes s) where
  pub tail_told : (rest ≡ s.tag ++ eight s.moment) × (count ≡ length s.tag)
  tail_told = let told = front_told e s count (length s.tag) rest (s.tag ++ eight s.moment) fits is.front few is.tag (sym parts ∙ same) in (told.rest, told.count)

  pub letters_told : (letters more : List ℕ) → rest ≡ letters ++ more → length letters ≡ count → letters ≡ s.tag
  letters_told letters more ends len = (fronts_same letters s.tag more (eight s.moment) (len ∙ tail_told.1) (sym ends ∙ tail_told.0)).0

pub made_fits : (e : Ending) (tag : List ℕ) (moment : ℕ) → EndingFrontFits e → EndingFrontFits (with_tag e tag moment)
made_fits e tag moment fits = record { size = fits.size; sha = fits.sha }
