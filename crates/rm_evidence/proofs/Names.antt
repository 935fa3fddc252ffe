-- The names of objects tell their kinds and their ids.
use Rattle.std.specs.{Fmt.{decimal}, Prelude.{codes}}
use Rattle.std.proofs.Common.{◌≡◌, ◌≢◌, ◌∙◌, ℕ, ◌<◌, ◌^◌, Bool, true, false, List, Some, get_or, refl, sym, ap, arith}
use Rattle.std.proofs.lemmas.{Fmt.{decimal_injective}, List.{append_cancel_left}, Option.{same_Some}}
use Rattle.rm_catalog.specs.{Keys.{key_of}, declared.record.Record.{Record}}
use Rattle.rm_catalog.specs.declared.record.Record.TheVariants as kind
use Rattle.rm_evidence.specs.Names.{log_name, object_id, object_name, piece_name, roll_name, set_name, site_name}

-- names that differ in a byte are not the same
differ-at : (k : ℕ) (n m : List ℕ) → get_or n k 0 ≢ get_or m k 0 → n ≢ m
differ-at k n m here same = here (ap (λ (name : List ℕ). get_or name k 0) same)

differ : (n m : List ℕ) → get_or n 0 0 ≢ get_or m 0 0 → n ≢ m
differ n m first = differ-at 0 n m first

pub log-name-tells : (a b : ℕ) → a < 2 ^ 64 → b < 2 ^ 64 → log_name a ≡ log_name b → a ≡ b
log-name-tells a b small_a small_b same = decimal_injective a b small_a small_b (append_cancel_left (codes "log_") (decimal a) (decimal b) same)

copy-no-piece : (a b : ℕ) → piece_name true a ≢ piece_name false b
copy-no-piece a b = differ (piece_name true a) (piece_name false b) (λ e. absurd (omega (arith, e)))

pub piece-name-tells : (c d : Bool) (a b : ℕ) → a < 2 ^ 64 → b < 2 ^ 64 → piece_name c a ≡ piece_name d b → (c ≡ d) × (a ≡ b)
piece-name-tells true true a b small_a small_b same = (refl, decimal_injective a b small_a small_b (append_cancel_left (codes "copy_") (decimal a) (decimal b) same))
piece-name-tells true false a b small_a small_b same = absurd (copy-no-piece a b same)
piece-name-tells false true a b small_a small_b same = absurd (copy-no-piece b a (sym same))
piece-name-tells false false a b small_a small_b same = (refl, decimal_injective a b small_a small_b (append_cancel_left (codes "piece_") (decimal a) (decimal b) same))

pub log-no-piece : (a : ℕ) (c : Bool) (b : ℕ) → log_name a ≢ piece_name c b
log-no-piece a true b = differ (log_name a) (piece_name true b) (λ e. absurd (omega (arith, e)))
log-no-piece a false b = differ (log_name a) (piece_name false b) (λ e. absurd (omega (arith, e)))

pub log-no-site : (a b : ℕ) → log_name a ≢ site_name b
log-no-site a b = differ (log_name a) (site_name b) (λ e. absurd (omega (arith, e)))

pub piece-no-site : (c : Bool) (a b : ℕ) → piece_name c a ≢ site_name b
piece-no-site true a b = differ (piece_name true a) (site_name b) (λ e. absurd (omega (arith, e)))
piece-no-site false a b = differ (piece_name false a) (site_name b) (λ e. absurd (omega (arith, e)))

pub set-name-tells : (a b : ℕ) → a < 2 ^ 64 → b < 2 ^ 64 → set_name a ≡ set_name b → a ≡ b
set-name-tells a b small_a small_b same = decimal_injective a b small_a small_b (append_cancel_left (codes "set_") (decimal a) (decimal b) same)

pub site-name-tells : (a b : ℕ) → a < 2 ^ 64 → b < 2 ^ 64 → site_name a ≡ site_name b → a ≡ b
site-name-tells a b small_a small_b same = decimal_injective a b small_a small_b (append_cancel_left (codes "site_") (decimal a) (decimal b) same)

pub log-no-set : (a b : ℕ) → log_name a ≢ set_name b
log-no-set a b = differ (log_name a) (set_name b) (λ e. absurd (omega (arith, e)))

pub piece-no-set : (c : Bool) (a b : ℕ) → piece_name c a ≢ set_name b
piece-no-set true a b = differ (piece_name true a) (set_name b) (λ e. absurd (omega (arith, e)))
piece-no-set false a b = differ (piece_name false a) (set_name b) (λ e. absurd (omega (arith, e)))

pub set-no-site : (a b : ℕ) → set_name a ≢ site_name b
set-no-site a b = differ-at 1 (set_name a) (site_name b) (λ e. absurd (omega (arith, e)))

pub log-no-roll : (a b : ℕ) → log_name a ≢ roll_name b
log-no-roll a b = differ (log_name a) (roll_name b) (λ e. absurd (omega (arith, e)))

pub piece-no-roll : (c : Bool) (a b : ℕ) → piece_name c a ≢ roll_name b
piece-no-roll true a b = differ (piece_name true a) (roll_name b) (λ e. absurd (omega (arith, e)))
piece-no-roll false a b = differ (piece_name false a) (roll_name b) (λ e. absurd (omega (arith, e)))

pub set-no-roll : (a b : ℕ) → set_name a ≢ roll_name b
set-no-roll a b = differ (set_name a) (roll_name b) (λ e. absurd (omega (arith, e)))

pub roll-no-site : (a b : ℕ) → roll_name a ≢ site_name b
roll-no-site a b = differ (roll_name a) (site_name b) (λ e. absurd (omega (arith, e)))

-- the names of two objects tell their ids, where those of one kind are of four bytes
pub names-tell : (x r : Record) (i j : ℕ) (n : List ℕ) → object_id x ≡ Some i → object_id r ≡ Some j → ((key_of x).kind ≡ (key_of r).kind → i < 2 ^ 32) → j < 2 ^ 32 → object_name x ≡ Some n → object_name r ≡ Some n → i ≡ j
names-tell (kind.Log l) (kind.Log m) i j n a b small_i small_j p q =
    let one : l.id ≡ i = same_Some l.id i a in
    let two : m.id ≡ j = same_Some m.id j b in
    let same = log-name-tells l.id m.id (omega (arith, one, small_i refl)) (omega (arith, two, small_j)) (same_Some (log_name l.id) n p ∙ sym (same_Some (log_name m.id) n q)) in
    sym one ∙ same ∙ two
names-tell (kind.Log l) (kind.Piece q) i j n a b small_i small_j p s = absurd (log-no-piece l.id q.copy q.id (same_Some (log_name l.id) n p ∙ sym (same_Some (piece_name q.copy q.id) n s)))
names-tell (kind.Log l) (kind.Set e) i j n a b small_i small_j p s = absurd (log-no-set l.id e.id (same_Some (log_name l.id) n p ∙ sym (same_Some (set_name e.id) n s)))
names-tell (kind.Piece q) (kind.Log l) i j n a b small_i small_j p s = absurd (log-no-piece l.id q.copy q.id (same_Some (log_name l.id) n s ∙ sym (same_Some (piece_name q.copy q.id) n p)))
names-tell (kind.Piece p) (kind.Piece q) i j n a b small_i small_j s t =
    let one : p.id ≡ i = same_Some p.id i a in
    let two : q.id ≡ j = same_Some q.id j b in
    let same = (piece-name-tells p.copy q.copy p.id q.id (omega (arith, one, small_i refl)) (omega (arith, two, small_j)) (same_Some (piece_name p.copy p.id) n s ∙ sym (same_Some (piece_name q.copy q.id) n t))).1 in
    sym one ∙ same ∙ two
names-tell (kind.Piece p) (kind.Set e) i j n a b small_i small_j s t = absurd (piece-no-set p.copy p.id e.id (same_Some (piece_name p.copy p.id) n s ∙ sym (same_Some (set_name e.id) n t)))
names-tell (kind.Set e) (kind.Log l) i j n a b small_i small_j p s = absurd (log-no-set l.id e.id (same_Some (log_name l.id) n s ∙ sym (same_Some (set_name e.id) n p)))
names-tell (kind.Set e) (kind.Piece p) i j n a b small_i small_j t s = absurd (piece-no-set p.copy p.id e.id (same_Some (piece_name p.copy p.id) n s ∙ sym (same_Some (set_name e.id) n t)))
names-tell (kind.Set e) (kind.Set f) i j n a b small_i small_j p q =
    let one : e.id ≡ i = same_Some e.id i a in
    let two : f.id ≡ j = same_Some f.id j b in
    let same = set-name-tells e.id f.id (omega (arith, one, small_i refl)) (omega (arith, two, small_j)) (same_Some (set_name e.id) n p ∙ sym (same_Some (set_name f.id) n q)) in
    sym one ∙ same ∙ two
names-tell (kind.Log l) _ i j n a b small_i small_j p q = absurd cc
names-tell (kind.Piece p) _ i j n a b small_i small_j s q = absurd cc
names-tell (kind.Set e) _ i j n a b small_i small_j p q = absurd cc
names-tell _ _ i j n a b small_i small_j p q = absurd cc
