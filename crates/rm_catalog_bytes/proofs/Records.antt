-- A record's key and bytes tell it.
use Rattle.std.proofs.Common.{◌≡◌, ◌∙◌, ℕ, refl, sym, ap, arith}
use Rattle.rm_catalog.specs.{Keys.{key_of}, declared.record.{Key.{Key}, Record.{Record}}}
use Rattle.rm_catalog.specs.declared.record.Record.TheVariants.{Base, Incarnation, Datafile, Log, Piece, Mark, Part, Head, Set, Switch}
use Rattle.rm_catalog_bytes.specs.{Fits.{Fits}, Spelling.{body_of}}
use Rattle.rm_catalog_bytes.proofs.Told.{base_same, incarnation_same, datafile_same, log_same, mark_same, part_same, head_same, switch_same}
use Rattle.rm_catalog_bytes.proofs.{Pieces.{piece_same}, SetTold.{set_same}}

kind_in : (k l : Key) → k ≡ l → k.kind ≡ l.kind
kind_in k l e = ap (λ (x : Key). x.kind) e

id_in : (k l : Key) → k ≡ l → k.id ≡ l.id
id_in k l e = ap (λ (x : Key). x.id) e

pub record_same : (r s : Record) → Fits r → Fits s → key_of r ≡ key_of s → body_of r ≡ body_of s → r ≡ s
record_same (Base r) (Base s) fr fs key e = ap Base (base_same r s fr fs e)
record_same (Incarnation r) (Incarnation s) fr fs key e = ap Incarnation (incarnation_same r s fr fs (id_in _ _ key) e)
record_same (Datafile r) (Datafile s) fr fs key e = ap Datafile (datafile_same r s fr fs (id_in _ _ key) e)
record_same (Log r) (Log s) fr fs key e = ap Log (log_same r s fr fs (id_in _ _ key) e)
record_same (Piece r) (Piece s) fr fs key e = ap Piece (piece_same r s fr fs (id_in _ _ key) e)
record_same (Mark r) (Mark s) fr fs key e = ap Mark (mark_same r s fr fs (id_in _ _ key) e)
record_same (Part r) (Part s) fr fs key e = ap Part (part_same r s fr fs (id_in _ _ key) e)
record_same (Head r) (Head s) fr fs key e = ap Head (head_same r s fr fs e)
record_same (Set r) (Set s) fr fs key e = ap Set (set_same r s fr fs (id_in _ _ key) e)
record_same (Switch r) (Switch s) fr fs key e = ap Switch (switch_same r s fr fs (id_in _ _ key) e)
record_same r s fr fs key e = absurd (let k = kind_in _ _ key in omega (arith, k))

key_of_parts : ℕ → ℕ → Key
key_of_parts kind id = record { kind = kind; id = id }

key_is : (k : Key) → key_of_parts k.kind k.id ≡ k
unfolding key_of_parts
key_is k = refl

pub key_made : (k : Key) (kind id : ℕ) → k.kind ≡ kind → k.id ≡ id → record { kind = kind; id = id } ≡ k
unfolding key_of_parts
key_made k kind id e f = sym (ap (λ (a : ℕ). key_of_parts a k.id) e ∙ ap (λ (b : ℕ). key_of_parts kind b) f) ∙ key_is k
