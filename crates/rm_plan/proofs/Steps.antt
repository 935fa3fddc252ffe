-- What is true of the entry of a block, step by step and in the end.
use Rattle.std.proofs.Common.{◌≡◌, ◌≤◌, ◌==◌, ◌||◌, inl, inr, ℕ, List, [], ◌∷◌, Bool, true, false, cond, fold, nat_lt, refl, sym, subst, arith, Contains}
use Rattle.std.proofs.lemmas.Bool.Decides.{nat_tests}
use Rattle.rm_base.{specs.declared.block.{Block.{Block}, Row.{Row}}, proofs.Members.{in-front, behind, none-in, first-or-rest}}
use Rattle.rm_base.proofs.Tests.{eq_from, eq_to, or_first}
use Rattle.rm_evidence.{specs.declared.evidence.Evidence.{Evidence}, proofs.Artefacts.{IsAmong}}
use Rattle.rm_piece.specs.declared.piece.Piece.{Piece}
use Rattle.rm_plan.specs.Entries.{entry_at_creation, after_version, after_counted_row, after_own_row, after_row, after_piece, after_pieces, looked_on_way, record_counts, after_record, entry_of}
use Rattle.rm_plan.specs.{Ways.{way_of}, declared.{entry.Entry.{Entry}, span.Span.{Span}}}
use Rattle.rm_redo.specs.declared.{log_file.LogFile.{LogFile}, online.LogRecord.{LogRecord}}

-- a fold whose steps keep what is true
module _ {S X : Type 0} (step : S → X → S) (P : S → Type 0) where
  pub fold_keeps : (xs : List X) → ((t : S) (x : X) → Contains xs x → P t → P (step t x)) → (t : S) → P t → P (fold step t xs)
  fold_keeps [] keeps t p = p
  fold_keeps (x ∷ xs) keeps t p = fold_keeps xs (λ u y within. keeps u y (behind x xs y within)) (step t x) (keeps t x (in-front x xs) p)

  pub fold_meets : (x : X) (xs : List X) → ((t : S) (y : X) → P t → P (step t y)) → Contains xs x → ((t : S) → P (step t x)) → (t : S) → P (fold step t xs)
  fold_meets x [] stays within here t = absurd (none-in x within)
  fold_meets x (y ∷ ys) stays within here t = elim (first-or-rest y ys x within) [
    | inl is ↦ fold_keeps ys (λ u z has p. stays u z p) (step t y) (subst (λ z. P (step t z)) (sym is) (here t))
    | inr later ↦ fold_meets x ys stays later here (step t y)
  ]

-- P is kept by each step at which a test is true
cond_keeps : {S : Type 0} (P : S → Type 0) (b : Bool) (u t : S) → P t → (b ≡ true → P u) → P (cond b u t)
cond_keeps P true u t p q = q refl
cond_keeps P false u t p q = p

cond_meets : {S : Type 0} (P : S → Type 0) (b : Bool) (u t : S) → b ≡ true → P u → P (cond b u t)
cond_meets P b u t is q = subst (λ c. P (cond c u t)) (sym is) q

-- what rows and records keep, in all artefacts of the evidence that they are in
module _ (ways : List Span) (e : Evidence) (creation f b : ℕ) (P : Entry → Type 0) where
  -- what each row of the block keeps, and each record of it on the way of its log
  pub record Keeps : Type 0 where
    pub rows : (x : ℕ × Piece) (level1 : Bool) (r : Row) (t : Entry) → IsAmong e x → Contains x.1.rows r → x.1.file ≡ f → r.block ≡ b → P t → P (after_own_row level1 (way_of ways x.1.inc).end x.1.checkpoint t r)
    pub records : (x : ℕ × LogFile) (r : LogRecord) (t : Entry) → Contains e.logs x → Contains x.1.records r → record_counts (way_of ways x.1.inc) f b r ≡ true → P t → P (after_version r.scn r.content t)

  module _ (keeps : Keeps) where
    piece_keeps : (x : ℕ × Piece) (level1 : Bool) (t : Entry) → IsAmong e x → P t → P (after_piece level1 ways f b t x.1)
    piece_keeps x level1 t among p =
        cond_keeps P (x.1.file == f) _ t p
        (λ file. fold_keeps (after_row (looked_on_way level1 ways x.1) (way_of ways x.1.inc).end x.1.checkpoint b) P x.1.rows
        (λ u r within q. cond_keeps P (r.block == b) _ u q (λ block. keeps.rows x (looked_on_way level1 ways x.1) r u among within (eq_from x.1.file f file) (eq_from r.block b block) q)) t p)

    log_keeps : (x : ℕ × LogFile) (t : Entry) → Contains e.logs x → P t → P (fold (after_record (way_of ways x.1.inc) f b) t x.1.records)
    log_keeps x t log p =
        fold_keeps (after_record (way_of ways x.1.inc) f b) P x.1.records
        (λ u r within q. cond_keeps P (record_counts (way_of ways x.1.inc) f b r) _ u q (λ counts. keeps.records x r u log within counts q)) t p

    pub entry_keeps : P (entry_at_creation creation) → P (entry_of ways e creation f b)
    entry_keeps start =
        let one = fold_keeps (λ (u : Entry) (x : ℕ × Piece). after_piece false ways f b u x.1) P e.bases (λ u x within q. piece_keeps x false u (inl within) q) (entry_at_creation creation) start in
        let two = fold_keeps (λ (u : Entry) (x : ℕ × Piece). after_piece true ways f b u x.1) P e.level1s (λ u x within q. piece_keeps x true u (inr within) q) (after_pieces false ways f b (entry_at_creation creation) e.bases) one in
        fold_keeps (λ (u : Entry) (x : ℕ × LogFile). fold (after_record (way_of ways x.1.inc) f b) u x.1.records) P e.logs (λ u x within q. log_keeps x u within q) (after_pieces true ways f b (after_pieces false ways f b (entry_at_creation creation) e.bases) e.level1s) two

-- what is never lost once it is true
pub record IsLasting (P : Entry → Type 0) : Type 0 where
  pub rows : (level1 : Bool) (end c : ℕ) (t : Entry) (r : Row) → P t → P (after_own_row level1 end c t r)
  pub records : (v : ℕ) (x : Block) (t : Entry) → P t → P (after_version v x t)

module _ (ways : List Span) (e : Evidence) (creation f b : ℕ) (P : Entry → Type 0) (lasts : IsLasting P) where
  row_lasts : (level1 : Bool) (end c : ℕ) (t : Entry) (r : Row) → P t → P (after_row level1 end c b t r)
  row_lasts level1 end c t r p = cond_keeps P (r.block == b) _ t p (λ is. lasts.rows level1 end c t r p)

  piece_lasts : (level1 : Bool) (t : Entry) (x : ℕ × Piece) → P t → P (after_piece level1 ways f b t x.1)
  piece_lasts level1 t x p = cond_keeps P (x.1.file == f) _ t p (λ is. fold_keeps (after_row (looked_on_way level1 ways x.1) (way_of ways x.1.inc).end x.1.checkpoint b) P x.1.rows (λ u r within q. row_lasts (looked_on_way level1 ways x.1) (way_of ways x.1.inc).end x.1.checkpoint u r q) t p)

  record_lasts : (way : Span) (t : Entry) (r : LogRecord) → P t → P (after_record way f b t r)
  record_lasts way t r p = cond_keeps P (record_counts way f b r) _ t p (λ is. lasts.records r.scn r.content t p)

  log_lasts : (t : Entry) (x : ℕ × LogFile) → P t → P (fold (after_record (way_of ways x.1.inc) f b) t x.1.records)
  log_lasts t x p = fold_keeps (after_record (way_of ways x.1.inc) f b) P x.1.records (λ u r within q. record_lasts (way_of ways x.1.inc) u r q) t p

  bases_noted : Entry
  bases_noted = after_pieces false ways f b (entry_at_creation creation) e.bases

  pieces_noted : Entry
  pieces_noted = after_pieces true ways f b bases_noted e.level1s

  from_pieces : P pieces_noted → P (entry_of ways e creation f b)
  unfolding bases_noted pieces_noted
  from_pieces p = fold_keeps (λ (u : Entry) (x : ℕ × LogFile). fold (after_record (way_of ways x.1.inc) f b) u x.1.records) P e.logs (λ u x within q. log_lasts u x q) pieces_noted p

  from_bases : P bases_noted → P (entry_of ways e creation f b)
  unfolding bases_noted pieces_noted
  from_bases p = from_pieces (fold_keeps (λ (u : Entry) (x : ℕ × Piece). after_piece true ways f b u x.1) P e.level1s (λ u x within q. piece_lasts true u x q) bases_noted p)

  -- what was true at first is true in the end
  pub from_start : P (entry_at_creation creation) → P (entry_of ways e creation f b)
  unfolding bases_noted
  from_start p = from_bases (fold_keeps (λ (u : Entry) (x : ℕ × Piece). after_piece false ways f b u x.1) P e.bases (λ u x within q. piece_lasts false u x q) (entry_at_creation creation) p)

  piece_meets : (level1 : Bool) (x : ℕ × Piece) (r : Row) → x.1.file ≡ f → Contains x.1.rows r → r.block ≡ b → ((t : Entry) → P (after_own_row (looked_on_way level1 ways x.1) (way_of ways x.1.inc).end x.1.checkpoint t r)) → (t : Entry) → P (after_piece level1 ways f b t x.1)
  piece_meets level1 x r file within block here t =
      cond_meets P (x.1.file == f) _ t (eq_to x.1.file f file)
      (fold_meets (after_row (looked_on_way level1 ways x.1) (way_of ways x.1.inc).end x.1.checkpoint b) P r x.1.rows (λ u y q. row_lasts (looked_on_way level1 ways x.1) (way_of ways x.1.inc).end x.1.checkpoint u y q) within (λ u. cond_meets P (r.block == b) _ u (eq_to r.block b block) (here u)) t)

  -- what a row of the block brings about is true in the end
  pub base_meets : (x : ℕ × Piece) (r : Row) → Contains e.bases x → x.1.file ≡ f → Contains x.1.rows r → r.block ≡ b → ((t : Entry) → P (after_own_row (looked_on_way false ways x.1) (way_of ways x.1.inc).end x.1.checkpoint t r)) → P (entry_of ways e creation f b)
  unfolding bases_noted
  base_meets x r among file within block here = from_bases (fold_meets (λ (u : Entry) (y : ℕ × Piece). after_piece false ways f b u y.1) P x e.bases (λ u y q. piece_lasts false u y q) among (λ u. piece_meets false x r file within block here u) (entry_at_creation creation))

  pub level1_meets : (x : ℕ × Piece) (r : Row) → Contains e.level1s x → x.1.file ≡ f → Contains x.1.rows r → r.block ≡ b → ((t : Entry) → P (after_own_row (looked_on_way true ways x.1) (way_of ways x.1.inc).end x.1.checkpoint t r)) → P (entry_of ways e creation f b)
  unfolding pieces_noted
  level1_meets x r among file within block here = from_pieces (fold_meets (λ (u : Entry) (y : ℕ × Piece). after_piece true ways f b u y.1) P x e.level1s (λ u y q. piece_lasts true u y q) among (λ u. piece_meets true x r file within block here u) bases_noted)

  -- and what a record of it on its way brings about
  pub record_meets : (x : ℕ × LogFile) (r : LogRecord) → Contains e.logs x → Contains x.1.records r → record_counts (way_of ways x.1.inc) f b r ≡ true → ((t : Entry) → P (after_version r.scn r.content t)) → P (entry_of ways e creation f b)
  unfolding pieces_noted bases_noted
  record_meets x r log within counts here =
      fold_meets (λ (u : Entry) (y : ℕ × LogFile). fold (after_record (way_of ways y.1.inc) f b) u y.1.records) P x e.logs (λ u y q. log_lasts u y q) log
      (λ u. fold_meets (after_record (way_of ways x.1.inc) f b) P r x.1.records (λ t y q. record_lasts (way_of ways x.1.inc) t y q) within (λ t. cond_meets P (record_counts (way_of ways x.1.inc) f b r) _ t counts (here t)) u)
      pieces_noted

-- one version that is looked at
module _ (v : ℕ) (x : Block) (t : Entry) where
  taken : Bool → Entry
  taken c = cond c (record t { told = record { version = v; content = x } }) t

  later_by : (c : Bool) → nat_lt t.told.version v ≡ c → (t.told.version ≤ (taken c).told.version) × (v ≤ (taken c).told.version) × (t.reach ≡ (taken c).reach) × (t.is_listed_astray ≡ (taken c).is_listed_astray)
  unfolding taken
  later_by true h = (grind (arith, nat_tests), omega arith, refl, refl)
  later_by false h = (omega arith, grind (arith, nat_tests), refl, refl)

  pub later_version : t.told.version ≤ (after_version v x t).told.version
  unfolding taken
  later_version = (later_by (nat_lt t.told.version v) refl).0

  pub later_reaches : v ≤ (after_version v x t).told.version
  unfolding taken
  later_reaches = (later_by (nat_lt t.told.version v) refl).1

  pub later_reach : t.reach ≡ (after_version v x t).reach
  unfolding taken
  later_reach = (later_by (nat_lt t.told.version v) refl).2

  pub later_stray : t.is_listed_astray ≡ (after_version v x t).is_listed_astray
  unfolding taken
  later_stray = (later_by (nat_lt t.told.version v) refl).3

-- no version falls
pub version_lasts : (n : ℕ) → IsLasting (λ t. n ≤ t.told.version)
version_lasts n = record {
  rows = λ level1 end c t r low. by (nat_lt r.version end) level1 end c t r low;
  records = λ v x t low. let up = later_version v x t in omega (arith, low, up);
}
  where
    by : (u : Bool) (level1 : Bool) (end c : ℕ) (t : Entry) (r : Row) → n ≤ t.told.version → n ≤ (cond u (after_counted_row end c t r) (record t { is_listed_astray = t.is_listed_astray || level1 })).told.version
    by true level1 end c t r low = let up = later_version r.version r.content t in omega (arith, low, up)
    by false level1 end c t r low = low

-- no reach falls
pub reach_lasts : (n : ℕ) → IsLasting (λ t. n ≤ t.reach)
reach_lasts n = record {
  rows = λ level1 end c t r low. by (nat_lt r.version end) level1 end c t r low;
  records = λ v x t low. subst (λ k. n ≤ k) (later_reach v x t) low;
}
  where
    by : (u : Bool) (level1 : Bool) (end c : ℕ) (t : Entry) (r : Row) → n ≤ t.reach → n ≤ (cond u (after_counted_row end c t r) (record t { is_listed_astray = t.is_listed_astray || level1 })).reach
    by true level1 end c t r low = let same = later_reach r.version r.content t in omega (arith, low, same)
    by false level1 end c t r low = low

-- what is astray stays so
pub stray_lasts : IsLasting (λ t. t.is_listed_astray ≡ true)
stray_lasts = record {
  rows = λ level1 end c t r is. by (nat_lt r.version end) level1 end c t r is;
  records = λ v x t is. subst (λ k. k ≡ true) (later_stray v x t) is;
}
  where
    by : (u : Bool) (level1 : Bool) (end c : ℕ) (t : Entry) (r : Row) → t.is_listed_astray ≡ true → (cond u (after_counted_row end c t r) (record t { is_listed_astray = t.is_listed_astray || level1 })).is_listed_astray ≡ true
    by true level1 end c t r is = subst (λ k. k ≡ true) (later_stray r.version r.content t) is
    by false level1 end c t r is = or_first t.is_listed_astray level1 is
