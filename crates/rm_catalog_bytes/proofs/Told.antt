-- What bytes tell of the record that they spell.
use Rattle.std.proofs.Common.{◌≡◌, ◌∙◌, ◌^◌, ◌<◌, ℕ, Bool, true, false, List, [], ◌∷◌, ◌++◌, length, refl, sym, ap, arith}
use Rattle.std.proofs.lemmas.List.{length-append}
use Rattle.rm_base.specs.{Number.{four, eight}, declared.kinds.{Kind.{Kind, TheVariants.{Full, Level0, Level1, Place}}, Status.{Status}}}
use Rattle.rm_base.specs.declared.kinds.{Status.TheVariants.{Available, Unavailable, Expired}, Policy.{Policy}}
use Rattle.rm_base.specs.declared.kinds.Policy.TheVariants.{Window, Redundancy, Nothing}
use Rattle.rm_base.proofs.Wide.{length-four, length-eight, fronts_same, four_same, eight_same}
use Rattle.rm_catalog.specs.declared.record.{BaseEntry.{BaseEntry}, IncarnationEntry.{IncarnationEntry}, DatafileEntry.{DatafileEntry}}
use Rattle.rm_catalog.specs.declared.record.{LogEntry.{LogEntry}, PieceEntry.{PieceEntry}, MarkEntry.{MarkEntry}, PartEntry.{PartEntry}}
use Rattle.rm_catalog.specs.declared.record.{HeadEntry.{HeadEntry}, SetEntry.{SetEntry}, SetPart.{SetPart}, SwitchEntry.{SwitchEntry}}
use Rattle.rm_catalog_bytes.specs.Fits.{BaseFits, IncarnationFits, DatafileFits, LogFits, EndingFrontFits, PieceHeadFits, MarkFits, PartFits, HeadFits, SetPartFits, SetFits, SwitchFits}
use Rattle.rm_catalog_bytes.specs.Spelling.{flag, status_code, kind_code, policy_code, policy_number, base_bytes, incarnation_bytes, datafile_bytes, log_bytes, ending_front, piece_head, mark_bytes, part_bytes, head_bytes, set_part_bytes, set_head, switch_bytes}
use Rattle.rm_catalog_bytes.specs.declared.ending.Ending.{Ending}
use Rattle.rm_catalog_bytes.proofs.Bodies.{base_fields, incarnation_fields, datafile_fields, log_fields, ending_fields, piece_fields, mark_fields, part_fields, head_fields, set_part_fields, set_fields, switch_fields}

cons_same : (a b : ℕ) (x y : List ℕ) → a ∷ x ≡ b ∷ y → (a ≡ b) × (x ≡ y)
cons_same a b x y e = (cc, cc)

pub flag_same : (a b : Bool) → flag a ≡ flag b → a ≡ b
flag_same true true e = refl
flag_same true false e = absurd (omega arith)
flag_same false true e = absurd (omega arith)
flag_same false false e = refl

pub status_same : (a b : Status) → status_code a ≡ status_code b → a ≡ b
status_same Available Available e = refl
status_same Available Unavailable e = absurd (omega arith)
status_same Available Expired e = absurd (omega arith)
status_same Unavailable Available e = absurd (omega arith)
status_same Unavailable Unavailable e = refl
status_same Unavailable Expired e = absurd (omega arith)
status_same Expired Available e = absurd (omega arith)
status_same Expired Unavailable e = absurd (omega arith)
status_same Expired Expired e = refl

pub kind_same : (a b : Kind) → kind_code a ≡ kind_code b → a ≡ b
kind_same Full Full e = refl
kind_same Full Level0 e = absurd (omega arith)
kind_same Full Level1 e = absurd (omega arith)
kind_same Full Place e = absurd (omega arith)
kind_same Level0 Full e = absurd (omega arith)
kind_same Level0 Level0 e = refl
kind_same Level0 Level1 e = absurd (omega arith)
kind_same Level0 Place e = absurd (omega arith)
kind_same Level1 Full e = absurd (omega arith)
kind_same Level1 Level0 e = absurd (omega arith)
kind_same Level1 Level1 e = refl
kind_same Level1 Place e = absurd (omega arith)
kind_same Place Full e = absurd (omega arith)
kind_same Place Level0 e = absurd (omega arith)
kind_same Place Level1 e = absurd (omega arith)
kind_same Place Place e = refl

policy_same : (a b : Policy) → policy_code a ≡ policy_code b → policy_number a ≡ policy_number b → a ≡ b
policy_same (Window m) (Window n) code number = ap Window number
policy_same (Window m) (Redundancy n) code number = absurd (omega (arith, code))
policy_same (Window m) Nothing code number = absurd (omega (arith, code))
policy_same (Redundancy m) (Window n) code number = absurd (omega (arith, code))
policy_same (Redundancy m) (Redundancy n) code number = ap Redundancy number
policy_same (Redundancy m) Nothing code number = absurd (omega (arith, code))
policy_same Nothing (Window n) code number = absurd (omega (arith, code))
policy_same Nothing (Redundancy n) code number = absurd (omega (arith, code))
policy_same Nothing Nothing code number = refl

-- ---- base

pub record BaseTold (r : BaseEntry) (n0 n1 n2 n3 n4 n5 n6 n7 n8 : ℕ) (x y : List ℕ) : Type 0 where
  pub dbid : n0 ≡ r.dbid
  pub threads : n1 ≡ r.threads
  pub current : n2 ≡ r.current
  pub next_id : n3 ≡ r.next_id
  pub moment : n4 ≡ r.moment
  pub code : n5 ≡ policy_code r.policy
  pub number : n6 ≡ policy_number r.policy
  pub parallelism : n7 ≡ r.parallelism
  pub tracking : n8 ≡ flag r.tracking
  pub rest : x ≡ y

pub base_told : (r : BaseEntry) (n0 n1 n2 n3 n4 n5 n6 n7 n8 : ℕ) (x y : List ℕ) → BaseFits r → n0 < 2 ^ 32 → n2 < 2 ^ 32 → n3 < 2 ^ 32 → n4 < 2 ^ 64 → n6 < 2 ^ 32 → n7 < 2 ^ 32 → four n0 ++ (n1 ∷ (four n2 ++ (four n3 ++ (eight n4 ++ (n5 ∷ (four n6 ++ (four n7 ++ (n8 ∷ x)))))))) ≡ base_bytes r ++ y → BaseTold r n0 n1 n2 n3 n4 n5 n6 n7 n8 x y
base_told r n0 n1 n2 n3 n4 n5 n6 n7 n8 x y fits l0 l2 l3 l4 l6 l7 e =
    let t0 = four_same n0 r.dbid _ _ l0 fits.dbid (e ∙ base_fields r y) in
    let t1 = cons_same n1 r.threads _ _ t0.1 in
    let t2 = four_same n2 r.current _ _ l2 fits.current t1.1 in
    let t3 = four_same n3 r.next_id _ _ l3 fits.next_id t2.1 in
    let t4 = eight_same n4 r.moment _ _ l4 fits.moment t3.1 in
    let t5 = cons_same n5 (policy_code r.policy) _ _ t4.1 in
    let t6 = four_same n6 (policy_number r.policy) _ _ l6 fits.policy t5.1 in
    let t7 = four_same n7 r.parallelism _ _ l7 fits.parallelism t6.1 in
    let t8 = cons_same n8 (flag r.tracking) _ _ t7.1 in
    record { dbid = t0.0; threads = t1.0; current = t2.0; next_id = t3.0; moment = t4.0; code = t5.0; number = t6.0; parallelism = t7.0; tracking = t8.0; rest = t8.1 }

pub length-base : (r : BaseEntry) → length (base_bytes r) ≡ 31
unfolding base_bytes
length-base r = simp (length-append, length-four, length-eight)

base_of : ℕ → ℕ → ℕ → ℕ → ℕ → Policy → ℕ → Bool → BaseEntry
base_of dbid threads current next_id moment policy parallelism tracking = record { dbid = dbid; threads = threads; current = current; next_id = next_id; moment = moment; policy = policy; parallelism = parallelism; tracking = tracking }

base_is : (r : BaseEntry) → base_of r.dbid r.threads r.current r.next_id r.moment r.policy r.parallelism r.tracking ≡ r
unfolding base_of
base_is r = refl

pub base_same : (r s : BaseEntry) → BaseFits r → BaseFits s → base_bytes r ≡ base_bytes s → r ≡ s
base_same r s fr fs e =
    let told = base_told s r.dbid r.threads r.current r.next_id r.moment (policy_code r.policy) (policy_number r.policy) r.parallelism (flag r.tracking) [] [] fs fr.dbid fr.current fr.next_id fr.moment fr.policy fr.parallelism (sym (base_fields r []) ∙ ap (λ (z : List ℕ). z ++ []) e) in
    let e_dbid : r.dbid ≡ s.dbid = told.dbid in
    let e_threads : r.threads ≡ s.threads = told.threads in
    let e_current : r.current ≡ s.current = told.current in
    let e_next_id : r.next_id ≡ s.next_id = told.next_id in
    let e_moment : r.moment ≡ s.moment = told.moment in
    let e_parallelism : r.parallelism ≡ s.parallelism = told.parallelism in
    let e_tracking : r.tracking ≡ s.tracking = flag_same r.tracking s.tracking told.tracking in
    let e_policy : r.policy ≡ s.policy = policy_same r.policy s.policy told.code told.number in
    let made : base_of r.dbid r.threads r.current r.next_id r.moment r.policy r.parallelism r.tracking ≡ base_of s.dbid s.threads s.current s.next_id s.moment s.policy s.parallelism s.tracking = cc (e_dbid, e_threads, e_current, e_next_id, e_moment, e_parallelism, e_tracking, e_policy) in
    sym (base_is r) ∙ made ∙ base_is s

-- ---- incarnation

pub record IncarnationTold (r : IncarnationEntry) (n0 n1 n2 : ℕ) (x y : List ℕ) : Type 0 where
  pub parent : n0 ≡ r.parent
  pub reset : n1 ≡ r.reset
  pub end : n2 ≡ r.end
  pub rest : x ≡ y

pub incarnation_told : (r : IncarnationEntry) (n0 n1 n2 : ℕ) (x y : List ℕ) → IncarnationFits r → n0 < 2 ^ 32 → n1 < 2 ^ 64 → n2 < 2 ^ 64 → four n0 ++ (eight n1 ++ (eight n2 ++ x)) ≡ incarnation_bytes r ++ y → IncarnationTold r n0 n1 n2 x y
incarnation_told r n0 n1 n2 x y fits l0 l1 l2 e =
    let t0 = four_same n0 r.parent _ _ l0 fits.parent (e ∙ incarnation_fields r y) in
    let t1 = eight_same n1 r.reset _ _ l1 fits.reset t0.1 in
    let t2 = eight_same n2 r.end _ _ l2 fits.end t1.1 in
    record { parent = t0.0; reset = t1.0; end = t2.0; rest = t2.1 }

pub length-incarnation : (r : IncarnationEntry) → length (incarnation_bytes r) ≡ 20
unfolding incarnation_bytes
length-incarnation r = simp (length-append, length-four, length-eight)

incarnation_of : ℕ → ℕ → ℕ → ℕ → IncarnationEntry
incarnation_of inc parent reset end = record { inc = inc; parent = parent; reset = reset; end = end }

incarnation_is : (r : IncarnationEntry) → incarnation_of r.inc r.parent r.reset r.end ≡ r
unfolding incarnation_of
incarnation_is r = refl

pub incarnation_same : (r s : IncarnationEntry) → IncarnationFits r → IncarnationFits s → r.inc ≡ s.inc → incarnation_bytes r ≡ incarnation_bytes s → r ≡ s
incarnation_same r s fr fs same_key e =
    let told = incarnation_told s r.parent r.reset r.end [] [] fs fr.parent fr.reset fr.end (sym (incarnation_fields r []) ∙ ap (λ (z : List ℕ). z ++ []) e) in
    let e_parent : r.parent ≡ s.parent = told.parent in
    let e_reset : r.reset ≡ s.reset = told.reset in
    let e_end : r.end ≡ s.end = told.end in
    let made : incarnation_of r.inc r.parent r.reset r.end ≡ incarnation_of s.inc s.parent s.reset s.end = cc (e_parent, e_reset, e_end, same_key) in
    sym (incarnation_is r) ∙ made ∙ incarnation_is s

-- ---- datafile

pub record DatafileTold (r : DatafileEntry) (n0 n1 n2 : ℕ) (x y : List ℕ) : Type 0 where
  pub inc : n0 ≡ r.inc
  pub creation : n1 ≡ r.creation
  pub blocks : n2 ≡ r.blocks
  pub rest : x ≡ y

pub datafile_told : (r : DatafileEntry) (n0 n1 n2 : ℕ) (x y : List ℕ) → DatafileFits r → n0 < 2 ^ 32 → n1 < 2 ^ 64 → n2 < 2 ^ 32 → four n0 ++ (eight n1 ++ (four n2 ++ x)) ≡ datafile_bytes r ++ y → DatafileTold r n0 n1 n2 x y
datafile_told r n0 n1 n2 x y fits l0 l1 l2 e =
    let t0 = four_same n0 r.inc _ _ l0 fits.inc (e ∙ datafile_fields r y) in
    let t1 = eight_same n1 r.creation _ _ l1 fits.creation t0.1 in
    let t2 = four_same n2 r.blocks _ _ l2 fits.blocks t1.1 in
    record { inc = t0.0; creation = t1.0; blocks = t2.0; rest = t2.1 }

pub length-datafile : (r : DatafileEntry) → length (datafile_bytes r) ≡ 16
unfolding datafile_bytes
length-datafile r = simp (length-append, length-four, length-eight)

datafile_of : ℕ → ℕ → ℕ → ℕ → DatafileEntry
datafile_of file inc creation blocks = record { file = file; inc = inc; creation = creation; blocks = blocks }

datafile_is : (r : DatafileEntry) → datafile_of r.file r.inc r.creation r.blocks ≡ r
unfolding datafile_of
datafile_is r = refl

pub datafile_same : (r s : DatafileEntry) → DatafileFits r → DatafileFits s → r.file ≡ s.file → datafile_bytes r ≡ datafile_bytes s → r ≡ s
datafile_same r s fr fs same_key e =
    let told = datafile_told s r.inc r.creation r.blocks [] [] fs fr.inc fr.creation fr.blocks (sym (datafile_fields r []) ∙ ap (λ (z : List ℕ). z ++ []) e) in
    let e_inc : r.inc ≡ s.inc = told.inc in
    let e_creation : r.creation ≡ s.creation = told.creation in
    let e_blocks : r.blocks ≡ s.blocks = told.blocks in
    let made : datafile_of r.file r.inc r.creation r.blocks ≡ datafile_of s.file s.inc s.creation s.blocks = cc (e_inc, e_creation, e_blocks, same_key) in
    sym (datafile_is r) ∙ made ∙ datafile_is s

-- ---- log

pub record LogTold (r : LogEntry) (n0 n1 n2 n3 n4 n5 n6 n8 n9 : ℕ) (s7 : List ℕ) (x y : List ℕ) : Type 0 where
  pub archived : n0 ≡ flag r.archived
  pub inc : n1 ≡ r.inc
  pub thread : n2 ≡ r.thread
  pub sequence : n3 ≡ r.sequence
  pub first : n4 ≡ r.first
  pub next : n5 ≡ r.next
  pub size : n6 ≡ r.size
  pub sha : s7 ≡ r.sha
  pub status : n8 ≡ status_code r.status
  pub keep : n9 ≡ flag r.keep
  pub rest : x ≡ y

pub log_told : (r : LogEntry) (n0 n1 n2 n3 n4 n5 n6 n8 n9 : ℕ) (s7 : List ℕ) (x y : List ℕ) → LogFits r → n1 < 2 ^ 32 → n3 < 2 ^ 32 → n4 < 2 ^ 64 → n5 < 2 ^ 64 → n6 < 2 ^ 64 → length s7 ≡ 32 → n0 ∷ (four n1 ++ (n2 ∷ (four n3 ++ (eight n4 ++ (eight n5 ++ (eight n6 ++ (s7 ++ (n8 ∷ (n9 ∷ x))))))))) ≡ log_bytes r ++ y → LogTold r n0 n1 n2 n3 n4 n5 n6 n8 n9 s7 x y
log_told r n0 n1 n2 n3 n4 n5 n6 n8 n9 s7 x y fits l1 l3 l4 l5 l6 l7 e =
    let t0 = cons_same n0 (flag r.archived) _ _ (e ∙ log_fields r y) in
    let t1 = four_same n1 r.inc _ _ l1 fits.inc t0.1 in
    let t2 = cons_same n2 r.thread _ _ t1.1 in
    let t3 = four_same n3 r.sequence _ _ l3 fits.sequence t2.1 in
    let t4 = eight_same n4 r.first _ _ l4 fits.first t3.1 in
    let t5 = eight_same n5 r.next _ _ l5 fits.next t4.1 in
    let t6 = eight_same n6 r.size _ _ l6 fits.size t5.1 in
    let t7 = fronts_same s7 r.sha _ _ (l7 ∙ sym fits.sha) t6.1 in
    let t8 = cons_same n8 (status_code r.status) _ _ t7.1 in
    let t9 = cons_same n9 (flag r.keep) _ _ t8.1 in
    record { archived = t0.0; inc = t1.0; thread = t2.0; sequence = t3.0; first = t4.0; next = t5.0; size = t6.0; sha = t7.0; status = t8.0; keep = t9.0; rest = t9.1 }

pub length-log : (r : LogEntry) → LogFits r → length (log_bytes r) ≡ 68
unfolding log_bytes
length-log r fits = let digest = fits.sha in simp (length-append, length-four, length-eight) (omega arith)

log_of : ℕ → Bool → ℕ → ℕ → ℕ → ℕ → ℕ → ℕ → List ℕ → Status → Bool → LogEntry
log_of id archived inc thread sequence first next size sha status keep = record { id = id; archived = archived; inc = inc; thread = thread; sequence = sequence; first = first; next = next; size = size; sha = sha; status = status; keep = keep }

log_is : (r : LogEntry) → log_of r.id r.archived r.inc r.thread r.sequence r.first r.next r.size r.sha r.status r.keep ≡ r
unfolding log_of
log_is r = refl

pub log_same : (r s : LogEntry) → LogFits r → LogFits s → r.id ≡ s.id → log_bytes r ≡ log_bytes s → r ≡ s
log_same r s fr fs same_key e =
    let told = log_told s (flag r.archived) r.inc r.thread r.sequence r.first r.next r.size (status_code r.status) (flag r.keep) r.sha [] [] fs fr.inc fr.sequence fr.first fr.next fr.size fr.sha (sym (log_fields r []) ∙ ap (λ (z : List ℕ). z ++ []) e) in
    let e_archived : r.archived ≡ s.archived = flag_same r.archived s.archived told.archived in
    let e_inc : r.inc ≡ s.inc = told.inc in
    let e_thread : r.thread ≡ s.thread = told.thread in
    let e_sequence : r.sequence ≡ s.sequence = told.sequence in
    let e_first : r.first ≡ s.first = told.first in
    let e_next : r.next ≡ s.next = told.next in
    let e_size : r.size ≡ s.size = told.size in
    let e_sha : r.sha ≡ s.sha = told.sha in
    let e_status : r.status ≡ s.status = status_same r.status s.status told.status in
    let e_keep : r.keep ≡ s.keep = flag_same r.keep s.keep told.keep in
    let made : log_of r.id r.archived r.inc r.thread r.sequence r.first r.next r.size r.sha r.status r.keep ≡ log_of s.id s.archived s.inc s.thread s.sequence s.first s.next s.size s.sha s.status s.keep = cc (e_archived, e_inc, e_thread, e_sequence, e_first, e_next, e_size, e_sha, e_status, e_keep, same_key) in
    sym (log_is r) ∙ made ∙ log_is s

-- ---- ending

pub record EndingTold (e : Ending) (m n0 n2 n3 n4 : ℕ) (s1 : List ℕ) (x y : List ℕ) : Type 0 where
  pub size : n0 ≡ e.size
  pub sha : s1 ≡ e.sha
  pub status : n2 ≡ status_code e.status
  pub keep : n3 ≡ flag e.keep
  pub count : n4 ≡ m
  pub rest : x ≡ y

pub ending_told : (e : Ending) (m n0 n2 n3 n4 : ℕ) (s1 : List ℕ) (x y : List ℕ) → EndingFrontFits e → m < 2 ^ 64 → n0 < 2 ^ 64 → length s1 ≡ 32 → n4 < 2 ^ 64 → eight n0 ++ (s1 ++ (n2 ∷ (n3 ∷ (eight n4 ++ x)))) ≡ ending_front e m ++ y → EndingTold e m n0 n2 n3 n4 s1 x y
ending_told e m n0 n2 n3 n4 s1 x y fits lm l0 l1 l4 is =
    let t0 = eight_same n0 e.size _ _ l0 fits.size (is ∙ ending_fields e m y) in
    let t1 = fronts_same s1 e.sha _ _ (l1 ∙ sym fits.sha) t0.1 in
    let t2 = cons_same n2 (status_code e.status) _ _ t1.1 in
    let t3 = cons_same n3 (flag e.keep) _ _ t2.1 in
    let t4 = eight_same n4 m _ _ l4 lm t3.1 in
    record { size = t0.0; sha = t1.0; status = t2.0; keep = t3.0; count = t4.0; rest = t4.1 }

pub length-ending : (e : Ending) (n : ℕ) → EndingFrontFits e → length (ending_front e n) ≡ 50
unfolding ending_front
length-ending e n fits = let digest = fits.sha in simp (length-append, length-eight) (omega arith)

-- ---- piece

pub record PieceTold (r : PieceEntry) (n0 n1 n2 n3 n4 n5 n6 n7 : ℕ) (x y : List ℕ) : Type 0 where
  pub copy : n0 ≡ flag r.copy
  pub kind : n1 ≡ kind_code r.kind
  pub inc : n2 ≡ r.inc
  pub file : n3 ≡ r.file
  pub from : n4 ≡ r.from
  pub checkpoint : n5 ≡ r.checkpoint
  pub high : n6 ≡ r.high
  pub rows : n7 ≡ r.rows
  pub rest : x ≡ y

pub piece_told : (r : PieceEntry) (n0 n1 n2 n3 n4 n5 n6 n7 : ℕ) (x y : List ℕ) → PieceHeadFits r → n2 < 2 ^ 32 → n3 < 2 ^ 32 → n4 < 2 ^ 64 → n5 < 2 ^ 64 → n6 < 2 ^ 64 → n7 < 2 ^ 32 → n0 ∷ (n1 ∷ (four n2 ++ (four n3 ++ (eight n4 ++ (eight n5 ++ (eight n6 ++ (four n7 ++ x))))))) ≡ piece_head r ++ y → PieceTold r n0 n1 n2 n3 n4 n5 n6 n7 x y
piece_told r n0 n1 n2 n3 n4 n5 n6 n7 x y fits l2 l3 l4 l5 l6 l7 e =
    let t0 = cons_same n0 (flag r.copy) _ _ (e ∙ piece_fields r y) in
    let t1 = cons_same n1 (kind_code r.kind) _ _ t0.1 in
    let t2 = four_same n2 r.inc _ _ l2 fits.inc t1.1 in
    let t3 = four_same n3 r.file _ _ l3 fits.file t2.1 in
    let t4 = eight_same n4 r.from _ _ l4 fits.from t3.1 in
    let t5 = eight_same n5 r.checkpoint _ _ l5 fits.checkpoint t4.1 in
    let t6 = eight_same n6 r.high _ _ l6 fits.high t5.1 in
    let t7 = four_same n7 r.rows _ _ l7 fits.rows t6.1 in
    record { copy = t0.0; kind = t1.0; inc = t2.0; file = t3.0; from = t4.0; checkpoint = t5.0; high = t6.0; rows = t7.0; rest = t7.1 }

pub length-piece : (r : PieceEntry) → length (piece_head r) ≡ 38
unfolding piece_head
length-piece r = simp (length-append, length-four, length-eight)

-- ---- mark

pub record MarkTold (r : MarkEntry) (n0 n1 n2 : ℕ) (x y : List ℕ) : Type 0 where
  pub moment : n0 ≡ r.moment
  pub inc : n1 ≡ r.inc
  pub scn : n2 ≡ r.scn
  pub rest : x ≡ y

pub mark_told : (r : MarkEntry) (n0 n1 n2 : ℕ) (x y : List ℕ) → MarkFits r → n0 < 2 ^ 64 → n1 < 2 ^ 32 → n2 < 2 ^ 64 → eight n0 ++ (four n1 ++ (eight n2 ++ x)) ≡ mark_bytes r ++ y → MarkTold r n0 n1 n2 x y
mark_told r n0 n1 n2 x y fits l0 l1 l2 e =
    let t0 = eight_same n0 r.moment _ _ l0 fits.moment (e ∙ mark_fields r y) in
    let t1 = four_same n1 r.inc _ _ l1 fits.inc t0.1 in
    let t2 = eight_same n2 r.scn _ _ l2 fits.scn t1.1 in
    record { moment = t0.0; inc = t1.0; scn = t2.0; rest = t2.1 }

pub length-mark : (r : MarkEntry) → length (mark_bytes r) ≡ 20
unfolding mark_bytes
length-mark r = simp (length-append, length-four, length-eight)

mark_of : ℕ → ℕ → ℕ → ℕ → MarkEntry
mark_of id moment inc scn = record { id = id; moment = moment; inc = inc; scn = scn }

mark_is : (r : MarkEntry) → mark_of r.id r.moment r.inc r.scn ≡ r
unfolding mark_of
mark_is r = refl

pub mark_same : (r s : MarkEntry) → MarkFits r → MarkFits s → r.id ≡ s.id → mark_bytes r ≡ mark_bytes s → r ≡ s
mark_same r s fr fs same_key e =
    let told = mark_told s r.moment r.inc r.scn [] [] fs fr.moment fr.inc fr.scn (sym (mark_fields r []) ∙ ap (λ (z : List ℕ). z ++ []) e) in
    let e_moment : r.moment ≡ s.moment = told.moment in
    let e_inc : r.inc ≡ s.inc = told.inc in
    let e_scn : r.scn ≡ s.scn = told.scn in
    let made : mark_of r.id r.moment r.inc r.scn ≡ mark_of s.id s.moment s.inc s.scn = cc (e_moment, e_inc, e_scn, same_key) in
    sym (mark_is r) ∙ made ∙ mark_is s

-- ---- part

pub record PartTold (r : PartEntry) (n0 n1 n2 : ℕ) (s3 : List ℕ) (x y : List ℕ) : Type 0 where
  pub file : n0 ≡ r.file
  pub thread : n1 ≡ r.thread
  pub size : n2 ≡ r.size
  pub sha : s3 ≡ r.sha
  pub rest : x ≡ y

pub part_told : (r : PartEntry) (n0 n1 n2 : ℕ) (s3 : List ℕ) (x y : List ℕ) → PartFits r → n0 < 2 ^ 32 → n2 < 2 ^ 64 → length s3 ≡ 32 → four n0 ++ (n1 ∷ (eight n2 ++ (s3 ++ x))) ≡ part_bytes r ++ y → PartTold r n0 n1 n2 s3 x y
part_told r n0 n1 n2 s3 x y fits l0 l2 l3 e =
    let t0 = four_same n0 r.file _ _ l0 fits.file (e ∙ part_fields r y) in
    let t1 = cons_same n1 r.thread _ _ t0.1 in
    let t2 = eight_same n2 r.size _ _ l2 fits.size t1.1 in
    let t3 = fronts_same s3 r.sha _ _ (l3 ∙ sym fits.sha) t2.1 in
    record { file = t0.0; thread = t1.0; size = t2.0; sha = t3.0; rest = t3.1 }

pub length-part : (r : PartEntry) → PartFits r → length (part_bytes r) ≡ 45
unfolding part_bytes
length-part r fits = let digest = fits.sha in simp (length-append, length-four, length-eight) (omega arith)

part_of : ℕ → ℕ → ℕ → ℕ → List ℕ → PartEntry
part_of id file thread size sha = record { id = id; file = file; thread = thread; size = size; sha = sha }

part_is : (r : PartEntry) → part_of r.id r.file r.thread r.size r.sha ≡ r
unfolding part_of
part_is r = refl

pub part_same : (r s : PartEntry) → PartFits r → PartFits s → r.id ≡ s.id → part_bytes r ≡ part_bytes s → r ≡ s
part_same r s fr fs same_key e =
    let told = part_told s r.file r.thread r.size r.sha [] [] fs fr.file fr.size fr.sha (sym (part_fields r []) ∙ ap (λ (z : List ℕ). z ++ []) e) in
    let e_file : r.file ≡ s.file = told.file in
    let e_thread : r.thread ≡ s.thread = told.thread in
    let e_size : r.size ≡ s.size = told.size in
    let e_sha : r.sha ≡ s.sha = told.sha in
    let made : part_of r.id r.file r.thread r.size r.sha ≡ part_of s.id s.file s.thread s.size s.sha = cc (e_file, e_thread, e_size, e_sha, same_key) in
    sym (part_is r) ∙ made ∙ part_is s

-- ---- head

pub record HeadTold (r : HeadEntry) (n0 n1 n2 : ℕ) (x y : List ℕ) : Type 0 where
  pub opened : n0 ≡ flag r.opened
  pub inc : n1 ≡ r.inc
  pub scn : n2 ≡ r.scn
  pub rest : x ≡ y

pub head_told : (r : HeadEntry) (n0 n1 n2 : ℕ) (x y : List ℕ) → HeadFits r → n1 < 2 ^ 32 → n2 < 2 ^ 64 → n0 ∷ (four n1 ++ (eight n2 ++ x)) ≡ head_bytes r ++ y → HeadTold r n0 n1 n2 x y
head_told r n0 n1 n2 x y fits l1 l2 e =
    let t0 = cons_same n0 (flag r.opened) _ _ (e ∙ head_fields r y) in
    let t1 = four_same n1 r.inc _ _ l1 fits.inc t0.1 in
    let t2 = eight_same n2 r.scn _ _ l2 fits.scn t1.1 in
    record { opened = t0.0; inc = t1.0; scn = t2.0; rest = t2.1 }

pub length-head : (r : HeadEntry) → length (head_bytes r) ≡ 13
unfolding head_bytes
length-head r = simp (length-append, length-four, length-eight)

head_of : Bool → ℕ → ℕ → HeadEntry
head_of opened inc scn = record { opened = opened; inc = inc; scn = scn }

head_is : (r : HeadEntry) → head_of r.opened r.inc r.scn ≡ r
unfolding head_of
head_is r = refl

pub head_same : (r s : HeadEntry) → HeadFits r → HeadFits s → head_bytes r ≡ head_bytes s → r ≡ s
head_same r s fr fs e =
    let told = head_told s (flag r.opened) r.inc r.scn [] [] fs fr.inc fr.scn (sym (head_fields r []) ∙ ap (λ (z : List ℕ). z ++ []) e) in
    let e_opened : r.opened ≡ s.opened = flag_same r.opened s.opened told.opened in
    let e_inc : r.inc ≡ s.inc = told.inc in
    let e_scn : r.scn ≡ s.scn = told.scn in
    let made : head_of r.opened r.inc r.scn ≡ head_of s.opened s.inc s.scn = cc (e_opened, e_inc, e_scn) in
    sym (head_is r) ∙ made ∙ head_is s

-- ---- switch

pub record SwitchTold (r : SwitchEntry) (n0 n1 n2 n3 n4 : ℕ) (x y : List ℕ) : Type 0 where
  pub thread : n0 ≡ r.thread
  pub inc : n1 ≡ r.inc
  pub scn : n2 ≡ r.scn
  pub on : n3 ≡ flag r.on
  pub sequence : n4 ≡ r.sequence
  pub rest : x ≡ y

pub switch_told : (r : SwitchEntry) (n0 n1 n2 n3 n4 : ℕ) (x y : List ℕ) → SwitchFits r → n1 < 2 ^ 32 → n2 < 2 ^ 64 → n4 < 2 ^ 32 → n0 ∷ (four n1 ++ (eight n2 ++ (n3 ∷ (four n4 ++ x)))) ≡ switch_bytes r ++ y → SwitchTold r n0 n1 n2 n3 n4 x y
switch_told r n0 n1 n2 n3 n4 x y fits l1 l2 l4 e =
    let t0 = cons_same n0 r.thread _ _ (e ∙ switch_fields r y) in
    let t1 = four_same n1 r.inc _ _ l1 fits.inc t0.1 in
    let t2 = eight_same n2 r.scn _ _ l2 fits.scn t1.1 in
    let t3 = cons_same n3 (flag r.on) _ _ t2.1 in
    let t4 = four_same n4 r.sequence _ _ l4 fits.sequence t3.1 in
    record { thread = t0.0; inc = t1.0; scn = t2.0; on = t3.0; sequence = t4.0; rest = t4.1 }

pub length-switch : (r : SwitchEntry) → length (switch_bytes r) ≡ 18
unfolding switch_bytes
length-switch r = simp (length-append, length-four, length-eight)

pub switch_same : (r s : SwitchEntry) → SwitchFits r → SwitchFits s → r.id ≡ s.id → switch_bytes r ≡ switch_bytes s → r ≡ s
switch_same r s fr fs same_key e =
    let told = switch_told s r.thread r.inc r.scn (flag r.on) r.sequence [] [] fs fr.inc fr.scn fr.sequence (sym (switch_fields r []) ∙ ap (λ (z : List ℕ). z ++ []) e) in
    let e_on : r.on ≡ s.on = flag_same r.on s.on told.on in
    λ i. record { id = same_key i; thread = told.thread i; inc = told.inc i; scn = told.scn i; on = e_on i; sequence = told.sequence i }

-- ---- set

pub record SetPartTold (p : SetPart) (n0 n1 n2 n3 n4 : ℕ) (x y : List ℕ) : Type 0 where
  pub file : n0 ≡ p.file
  pub kind : n1 ≡ kind_code p.kind
  pub from : n2 ≡ p.from
  pub high : n3 ≡ p.high
  pub rows : n4 ≡ p.rows
  pub rest : x ≡ y

pub set_part_told : (p : SetPart) (n0 n1 n2 n3 n4 : ℕ) (x y : List ℕ) → SetPartFits p → n0 < 2 ^ 32 → n2 < 2 ^ 64 → n3 < 2 ^ 64 → n4 < 2 ^ 32 → four n0 ++ (n1 ∷ (eight n2 ++ (eight n3 ++ (four n4 ++ x)))) ≡ set_part_bytes p ++ y → SetPartTold p n0 n1 n2 n3 n4 x y
set_part_told p n0 n1 n2 n3 n4 x y fits l0 l2 l3 l4 e =
    let t0 = four_same n0 p.file _ _ l0 fits.file (e ∙ set_part_fields p y) in
    let t1 = cons_same n1 (kind_code p.kind) _ _ t0.1 in
    let t2 = eight_same n2 p.from _ _ l2 fits.from t1.1 in
    let t3 = eight_same n3 p.high _ _ l3 fits.high t2.1 in
    let t4 = four_same n4 p.rows _ _ l4 fits.rows t3.1 in
    record { file = t0.0; kind = t1.0; from = t2.0; high = t3.0; rows = t4.0; rest = t4.1 }

pub length-set_part : (p : SetPart) → length (set_part_bytes p) ≡ 25
unfolding set_part_bytes
length-set_part p = simp (length-append, length-four, length-eight)

pub record SetTold (r : SetEntry) (m n0 n1 n2 : ℕ) (x y : List ℕ) : Type 0 where
  pub inc : n0 ≡ r.inc
  pub checkpoint : n1 ≡ r.checkpoint
  pub count : n2 ≡ m
  pub rest : x ≡ y

pub set_told : (r : SetEntry) (m n0 n1 n2 : ℕ) (x y : List ℕ) → SetFits r → m < 2 ^ 64 → n0 < 2 ^ 32 → n1 < 2 ^ 64 → n2 < 2 ^ 64 → four n0 ++ (eight n1 ++ (eight n2 ++ x)) ≡ set_head r m ++ y → SetTold r m n0 n1 n2 x y
set_told r m n0 n1 n2 x y fits lm l0 l1 l2 e =
    let t0 = four_same n0 r.inc _ _ l0 fits.inc (e ∙ set_fields r m y) in
    let t1 = eight_same n1 r.checkpoint _ _ l1 fits.checkpoint t0.1 in
    let t2 = eight_same n2 m _ _ l2 lm t1.1 in
    record { inc = t0.0; checkpoint = t1.0; count = t2.0; rest = t2.1 }

pub length-set : (r : SetEntry) (n : ℕ) → length (set_head r n) ≡ 20
unfolding set_head
length-set r n = simp (length-append, length-four, length-eight)
