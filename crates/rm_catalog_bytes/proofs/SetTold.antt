-- A set with its parts and its ending.
use Rattle.std.specs.List.{flat_map}
use Rattle.std.proofs.Common.{◌≡◌, ◌∙◌, ◌*◌, ◌^◌, ◌<◌, ◌≤◌, List, ℕ, ◌++◌, length, All, refl, sym, ap, arith}
use Rattle.std.proofs.lemmas.List.{length-append}
use Rattle.rm_base.{specs.Number.{four, eight}, proofs.{Items.{items_same, length-items}, Wide.{fronts_same}}}
use Rattle.rm_catalog.specs.declared.record.{SetEntry.{SetEntry}, SetPart.{SetPart}}
use Rattle.rm_catalog_bytes.specs.Fits.{SetPartFits, SetFits}
use Rattle.rm_catalog_bytes.specs.Spelling.{kind_code, set_part_bytes, set_head, set_ending, set_bytes, ending_bytes}
use Rattle.rm_catalog_bytes.proofs.{Bodies.{set_part_fields, set_fields}, Endings.{ending_same}}
use Rattle.rm_catalog_bytes.proofs.Told.{set_part_told, length-set_part, SetTold, set_told, length-set, kind_same}

-- ---- its parts

pub set_part_same : (p q : SetPart) (x y : List ℕ) → SetPartFits p → SetPartFits q → set_part_bytes p ++ x ≡ set_part_bytes q ++ y → (p ≡ q) × (x ≡ y)
set_part_same p q x y fp fq e =
    let told = set_part_told q p.file (kind_code p.kind) p.from p.high p.rows x y fq fp.file fp.from fp.high fp.rows (sym (set_part_fields p x) ∙ e) in
    let kind = kind_same p.kind q.kind told.kind in
    (λ i. record { file = told.file i; kind = kind i; from = told.from i; high = told.high i; rows = told.rows i }, told.rest)

pub parts_same : (ps qs : List SetPart) → length ps ≡ length qs → All SetPartFits ps → All SetPartFits qs → flat_map set_part_bytes ps ≡ flat_map set_part_bytes qs → ps ≡ qs
parts_same ps qs = items_same set_part_bytes SetPartFits set_part_same ps qs

pub length-parts : (ps : List SetPart) → All SetPartFits ps → length (flat_map set_part_bytes ps) ≡ 25 * length ps
length-parts ps fits = length-items set_part_bytes SetPartFits 25 (λ p _. length-set_part p) ps fits

-- ---- the whole

pub long : (r : SetEntry) (bytes : List ℕ) → bytes ≡ set_bytes r → 20 ≤ length bytes
long r bytes is =
    let all = ap (λ (z : List ℕ). length z) is in
    let both = length-append (set_head r (length r.parts)) (flat_map set_part_bytes r.parts ++ ending_bytes (set_ending r)) in
    omega (arith, all, both, length-set r (length r.parts))

pub behind_long : (r : SetEntry) (rest : List ℕ) → SetFits r → rest ≡ flat_map set_part_bytes r.parts ++ ending_bytes (set_ending r) → 25 * length r.parts ≤ length rest
behind_long r rest fits is =
    let all = ap (λ (z : List ℕ). length z) is in
    let both = length-append (flat_map set_part_bytes r.parts) (ending_bytes (set_ending r)) in
    omega (arith, all, both, length-parts r.parts fits.parts)

pub parts_told : (r : SetEntry) (rest front after : List ℕ) → SetFits r → length front ≡ 25 * length r.parts → rest ≡ front ++ after → rest ≡ flat_map set_part_bytes r.parts ++ ending_bytes (set_ending r) → (front ≡ flat_map set_part_bytes r.parts) × (after ≡ ending_bytes (set_ending r))
parts_told r rest front after fits len parts is = fronts_same front _ after _ (len ∙ sym (length-parts r.parts fits.parts)) (sym parts ∙ is)

pub set_behind : (r : SetEntry) (bytes a b rest : List ℕ) (inc checkpoint count : ℕ) → SetFits r → inc < 2 ^ 32 → checkpoint < 2 ^ 64 → count < 2 ^ 64 → bytes ≡ four inc ++ a → a ≡ eight checkpoint ++ b → b ≡ eight count ++ rest → bytes ≡ set_bytes r → SetTold r (length r.parts) inc checkpoint count rest (flat_map set_part_bytes r.parts ++ ending_bytes (set_ending r))
set_behind r bytes a b rest inc checkpoint count fits li lc ln first second third is =
    let all : bytes ≡ four inc ++ (eight checkpoint ++ (eight count ++ rest)) = first ∙ (λ i. four inc ++ second i) ∙ (λ i. four inc ++ (eight checkpoint ++ third i)) in
    set_told r (length r.parts) inc checkpoint count rest _ fits fits.count li lc ln (sym all ∙ is)

pub set_found : (r : SetEntry) (bytes a b rest front after : List ℕ) (count : ℕ) → bytes ≡ four r.inc ++ a → a ≡ eight r.checkpoint ++ b → b ≡ eight count ++ rest → length r.parts ≡ count → rest ≡ front ++ after → front ≡ flat_map set_part_bytes r.parts → after ≡ ending_bytes (set_ending r) → bytes ≡ set_bytes r
set_found r bytes a b rest front after count first second third many split parts ending =
    first ∙ (λ i. four r.inc ++ second i) ∙ (λ i. four r.inc ++ (eight r.checkpoint ++ third i)) ∙ (λ i. four r.inc ++ (eight r.checkpoint ++ (eight (sym many i) ++ split i)))
    ∙ (λ i. four r.inc ++ (eight r.checkpoint ++ (eight (length r.parts) ++ (parts i ++ ending i))))
    ∙ sym (set_fields r (length r.parts) (flat_map set_part_bytes r.parts ++ ending_bytes (set_ending r)))

pub set_same : (r s : SetEntry) → SetFits r → SetFits s → r.id ≡ s.id → set_bytes r ≡ set_bytes s → r ≡ s
set_same r s fr fs same_id e =
    let told = set_told s (length s.parts) r.inc r.checkpoint (length r.parts) _ _ fs fs.count fr.inc fr.checkpoint fr.count (sym (set_fields r (length r.parts) _) ∙ e) in
    let split = parts_told s _ (flat_map set_part_bytes r.parts) (ending_bytes (set_ending r)) fs (length-parts r.parts fr.parts ∙ ap (λ (n : ℕ). 25 * n) told.count) refl told.rest in
    let parts = parts_same r.parts s.parts told.count fr.parts fs.parts split.0 in
    let ending = ending_same (set_ending r) (set_ending s) fr.ending fs.ending split.1 in
    λ i. record {
      id = same_id i;
      inc = told.inc i;
      checkpoint = told.checkpoint i;
      parts = parts i;
      size = (ending i).size;
      sha = (ending i).sha;
      status = (ending i).status;
      keep = (ending i).keep;
      tag = (ending i).tag;
      moment = (ending i).moment;
    }
