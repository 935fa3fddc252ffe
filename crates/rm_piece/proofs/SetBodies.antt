-- The bytes before the digest tell the set.
use Rattle.std.proofs.{Common.{◌≡◌, ◌∙◌, ◌^◌, ◌<◌, ℕ, List, ◌∷◌, ◌++◌, length, sym, append_assoc}, lemmas.List.{length-append}}
use Rattle.rm_base.{specs.Number.{four, eight}, proofs.Wide.{length-four, length-eight, four_same, eight_same}}
use Rattle.rm_piece.specs.{SetFits.{MemberHeadFits, SetHeadFits}, SetSpelling.{member_head, set_head, set_magic}, Spelling.{code_of}}
use Rattle.rm_piece.{specs.declared.set.{Set.{Set}, SetFile.{SetFile}}, proofs.Bodies.{code_same}}

-- ---- the head of a set

-- each field, and what follows it
pub set_fields : (s : Set) (n : ℕ) (x : List ℕ) → set_head s n ++ x ≡ set_magic ++ (four s.dbid ++ (four s.inc ++ (eight s.checkpoint ++ (four n ++ x))))
unfolding set_head
set_fields s n x = simp append_assoc

pub length-set_head : (s : Set) (n : ℕ) → length (set_head s n) ≡ 25
unfolding set_head
length-set_head s n = simp (length-append, length-four, length-eight)

-- two heads that the same bytes tell
pub record SameSetHead (s t : Set) (m n : ℕ) (x y : List ℕ) : Type 0 where
  pub dbid : s.dbid ≡ t.dbid
  pub inc : s.inc ≡ t.inc
  pub checkpoint : s.checkpoint ≡ t.checkpoint
  pub count : m ≡ n
  pub rest : x ≡ y

opening_same : (x y : List ℕ) → set_magic ++ x ≡ set_magic ++ y → x ≡ y
opening_same x y e = cc

pub set_head_same : (s t : Set) (m n : ℕ) (x y : List ℕ) → SetHeadFits s → SetHeadFits t → m < 2 ^ 32 → n < 2 ^ 32 → set_head s m ++ x ≡ set_head t n ++ y → SameSetHead s t m n x y
set_head_same s t m n x y fs ft fm fn e =
    let opened = opening_same _ _ (sym (set_fields s m x) ∙ e ∙ set_fields t n y) in
    let dbid = four_same s.dbid t.dbid _ _ fs.dbid ft.dbid opened in
    let inc = four_same s.inc t.inc _ _ fs.inc ft.inc dbid.1 in
    let checkpoint = eight_same s.checkpoint t.checkpoint _ _ fs.checkpoint ft.checkpoint inc.1 in
    let count = four_same m n x y fm fn checkpoint.1 in
    record { dbid = dbid.0; inc = inc.0; checkpoint = checkpoint.0; count = count.0; rest = count.1 }

-- ---- the head of a member

pub member_fields : (m : SetFile) (n : ℕ) (x : List ℕ) → member_head m n ++ x ≡ code_of m.piece.kind ∷ (four m.piece.file ++ (eight m.creation ++ (four m.piece.blocks ++ (eight m.piece.from ++ (eight m.piece.high ++ (four n ++ x))))))
unfolding member_head
member_fields m n x = simp append_assoc

pub length-member_head : (m : SetFile) (n : ℕ) → length (member_head m n) ≡ 37
unfolding member_head
length-member_head m n = simp (length-append, length-four, length-eight)

pub record SameMemberHead (l m : SetFile) (i n : ℕ) (x y : List ℕ) : Type 0 where
  pub kind : l.piece.kind ≡ m.piece.kind
  pub file : l.piece.file ≡ m.piece.file
  pub creation : l.creation ≡ m.creation
  pub blocks : l.piece.blocks ≡ m.piece.blocks
  pub from : l.piece.from ≡ m.piece.from
  pub high : l.piece.high ≡ m.piece.high
  pub count : i ≡ n
  pub rest : x ≡ y

byte_same : (a b : ℕ) (x y : List ℕ) → a ∷ x ≡ b ∷ y → (a ≡ b) × (x ≡ y)
byte_same a b x y e = (cc, cc)

pub member_head_same : (l m : SetFile) (i n : ℕ) (x y : List ℕ) → MemberHeadFits l → MemberHeadFits m → i < 2 ^ 32 → n < 2 ^ 32 → member_head l i ++ x ≡ member_head m n ++ y → SameMemberHead l m i n x y
member_head_same l m i n x y fl fm fi fn e =
    let code = byte_same _ _ _ _ (sym (member_fields l i x) ∙ e ∙ member_fields m n y) in
    let file = four_same l.piece.file m.piece.file _ _ fl.file fm.file code.1 in
    let creation = eight_same l.creation m.creation _ _ fl.creation fm.creation file.1 in
    let blocks = four_same l.piece.blocks m.piece.blocks _ _ fl.blocks fm.blocks creation.1 in
    let from = eight_same l.piece.from m.piece.from _ _ fl.from fm.from blocks.1 in
    let high = eight_same l.piece.high m.piece.high _ _ fl.high fm.high from.1 in
    let count = four_same i n x y fi fn high.1 in
    record {
      kind = code_same l.piece.kind m.piece.kind code.0;
      file = file.0;
      creation = creation.0;
      blocks = blocks.0;
      from = from.0;
      high = high.0;
      count = count.0;
      rest = count.1;
    }
