-- What a valid set that the bytes spell tells of what was read of them.
use Rattle.std.specs.List.{flat_map}
use Rattle.std.proofs.Common.{◌≡◌, ◌∙◌, ◌+◌, ◌-◌, ◌*◌, ◌^◌, ◌<◌, ◌≤◌, ℕ, List, [], ◌∷◌, ◌++◌, length, take, drop, All, ap, sym, arith, append_assoc, append-nil}
use Rattle.std.proofs.lemmas.List.{length-append, take-append-drop, Concat.{flat_map-append}, Sums.{sum_by-append, sum_by-cons, sum_by_push}}
use Rattle.rm_base.{specs.declared.block.Row.{Row}, proofs.Items.{items_front, items_next, NextItem}}
use Rattle.rm_piece.specs.{Filling.{IsSpread}, Fits.{RowFits}, SetFits.{MemberHeadFits, SetHeadFits}}
use Rattle.rm_piece.specs.{SetSpelling.{member_bytes, member_head, set_body, set_head, spelled}, Sets.{blocks_in, written, IsMember, IsSet}}
use Rattle.rm_piece.{specs.{Spelling.{row_bytes}, declared.set.{Set.{Set}, SetFile.{SetFile}}}, proofs.Bodies.{row_same, length-rows}}
use Rattle.rm_piece.proofs.SetBodies.{SameMemberHead, SameSetHead, length-set_head, member_head_same, set_head_same}
use Rattle.rm_piece.proofs.SetFitting.{few_members, length-member, member_fits, member_same, moved, set_fits, spelled_few, spelled_fits, spread, with_rows}

-- ---- a member

-- the front that is split off, and what is behind it
split-is : (n : ℕ) (xs front back : List ℕ) → front ≡ take n xs → back ≡ drop n xs → xs ≡ front ++ back
split-is n xs front back first last = sym (take-append-drop n xs) ∙ (λ i. sym first i ++ sym last i)

-- its head, and the rows behind it
pub member-found : (head : SetFile) (count n : ℕ) (body behind front rest : List ℕ) (read rows : List Row) → body ≡ member_head head count ++ behind → front ≡ take n behind → rest ≡ drop n behind → front ≡ flat_map row_bytes read → length read ≡ count → written head.creation rows ≡ read → body ≡ member_bytes (with_rows head rows) ++ rest
unfolding member_bytes member_head
member-found head count n body behind front rest read rows parts first last spells many is =
    parts
    ∙ (λ i. member_head head (sym many i) ++ (split-is n behind front rest first last ∙ ap (λ (f : List ℕ). f ++ rest) spells) i)
    ∙ sym (append_assoc (member_head head (length read)) (flat_map row_bytes read) rest)
    ∙ (λ i. (member_head head (length (sym is i)) ++ flat_map row_bytes (sym is i)) ++ rest)

-- the rows of a member that begins with a head are made of the rows that were read, and end where these end
pub record RowsTold (head m : SetFile) (read : List Row) (rest x : List ℕ) : Type 0 where
  pub spread : IsSpread head.creation head.piece.from head.piece.blocks m.piece.rows
  pub wrote : written head.creation m.piece.rows ≡ read
  pub ends : rest ≡ x

-- the head of a member and the number of its rows were read of these bytes, with what is behind them
module _ {set : Set} {head m : SetFile} {count : ℕ} {body : List ℕ} (behind x : List ℕ) (fits : MemberHeadFits head) (few : count < 2 ^ 32) (is : IsMember set m) (parts : body ≡ member_head head count ++ behind) (same : body ≡ member_bytes m ++ x) where
  -- the head that was read is the member's
  pub told : SameMemberHead head m count (length (spelled m)) behind (flat_map row_bytes (spelled m) ++ x)
  unfolding member_bytes
  told = member_head_same head m count (length (spelled m)) behind _ fits (member_fits set m is) few (spelled_few set m is)
      (sym parts ∙ same ∙ append_assoc (member_head m (length (spelled m))) (flat_map row_bytes (spelled m)) x)

  -- so there are bytes enough
  pub enough : 76 * count ≤ length behind
  enough =
      let rest = ap (λ (xs : List ℕ). length xs) told.rest in
      let both = length-append (flat_map row_bytes (spelled m)) x in
      let rows = length-rows (spelled m) (spelled_fits set m is) in
      let number = told.count in
      omega (arith, rest, both, rows, number)

  -- the rows of the member are those that may be made of the rows that were read
  pub rows-told : {front rest : List ℕ} {read : List Row} → front ≡ take (76 * count) behind → rest ≡ drop (76 * count) behind → front ≡ flat_map row_bytes read → length read ≡ count → All RowFits read → RowsTold head m read rest x
  rows-told {front} {rest} {read} first last spells many all =
      let both = items_front row_bytes RowFits row_same read (spelled m) rest x (many ∙ told.count) all (spelled_fits set m is)
      (ap (λ (f : List ℕ). f ++ rest) (sym spells) ∙ sym (split-is _ behind front rest first last) ∙ told.rest) in
      record {
        spread = coe 1 0 (i. IsSpread (told.creation i) (told.from i) (told.blocks i) m.piece.rows) (spread set m is);
        wrote = ap (λ (c : ℕ). written c m.piece.rows) told.creation ∙ sym both.0;
        ends = both.1;
      }

pub member-apart : (m : SetFile) (x : List ℕ) → member_bytes m ++ x ≡ member_head m (length (spelled m)) ++ (flat_map row_bytes (spelled m) ++ x)
unfolding member_bytes
member-apart m x = append_assoc (member_head m (length (spelled m))) (flat_map row_bytes (spelled m)) x

pub member-long : (set : Set) (m : SetFile) (body x : List ℕ) → IsMember set m → body ≡ member_bytes m ++ x → 37 ≤ length body
member-long set m body x is same =
    let all = ap (λ (xs : List ℕ). length xs) same in
    let both = length-append (member_bytes m) x in
    let here = length-member set m is in
    omega (arith, all, both, here)

-- ---- all members

-- the member that is next, of a set whose members the same bytes spell
pub next-member : (set : Set) (xs ms : List SetFile) (bytes rest : List ℕ) (k : ℕ) → length xs ≡ k → k < length ms → All (IsMember set) xs → All (IsMember set) ms → bytes ≡ flat_map member_bytes xs ++ rest → bytes ≡ flat_map member_bytes ms → NextItem member_bytes (IsMember set) xs ms rest
next-member set xs ms bytes rest k many less valid are parts same =
    items_next member_bytes (IsMember set) (member_same set) xs ms rest (omega (arith, many, less)) valid are (sym parts ∙ same)

-- and there is room for it
pub next-room : {set : Set} {xs ms : List SetFile} {rest : List ℕ} (room : ℕ) → (next : NextItem member_bytes (IsMember set) xs ms rest) → room + blocks_in xs ≡ 131072 → blocks_in ms ≤ 131072 → next.item.piece.blocks ≤ room
next-room {set} {xs} {ms} {rest} room next left few =
    let all = ap (λ (l : List SetFile). blocks_in l) next.list in
    let both = sum_by-append (λ (m : SetFile). m.piece.blocks) xs (next.item ∷ next.others) in
    let first = sum_by-cons (λ (m : SetFile). m.piece.blocks) next.item next.others in
    omega (arith, all, both, first, left, few)

-- as many members are all of them
pub all-members : (set : Set) (xs ms : List SetFile) (bytes rest : List ℕ) → length xs ≡ length ms → All (IsMember set) xs → All (IsMember set) ms → bytes ≡ flat_map member_bytes xs ++ rest → bytes ≡ flat_map member_bytes ms → (xs ≡ ms) × (rest ≡ [])
all-members set xs ms bytes rest many valid are parts same =
    items_front member_bytes (IsMember set) (member_same set) xs ms rest [] many valid are (sym parts ∙ same ∙ sym (append-nil (flat_map member_bytes ms)))

-- one member more
pub turn-members : (xs made : List SetFile) (m : SetFile) (bytes rest after : List ℕ) → bytes ≡ flat_map member_bytes xs ++ rest → rest ≡ member_bytes m ++ after → made ≡ xs ++ m ∷ [] → bytes ≡ flat_map member_bytes made ++ after
turn-members xs made m bytes rest after so_far here pushed =
    so_far
    ∙ ap (λ (x : List ℕ). flat_map member_bytes xs ++ x) here
    ∙ sym (append_assoc (flat_map member_bytes xs) (member_bytes m) after)
    ∙ ap (λ (x : List ℕ). (flat_map member_bytes xs ++ x) ++ after) (sym (append-nil (member_bytes m)))
    ∙ ap (λ (x : List ℕ). x ++ after) (sym (flat_map-append member_bytes xs (m ∷ [])))
    ∙ ap (λ (x : List SetFile). flat_map member_bytes x ++ after) (sym pushed)

pub turn-room : (xs made : List SetFile) (m : SetFile) (room : ℕ) → room + blocks_in xs ≡ 131072 → m.piece.blocks ≤ room → made ≡ xs ++ m ∷ [] → room - m.piece.blocks + blocks_in made ≡ 131072
turn-room xs made m room left fits pushed =
    let all = ap (λ (l : List SetFile). blocks_in l) pushed in
    let both = sum_by_push (λ (n : SetFile). n.piece.blocks) xs m in
    omega (arith, left, fits, all, both)

-- ---- the set

pub set-found : (head : Set) (count : ℕ) (body rest : List ℕ) (members : List SetFile) → body ≡ set_head head count ++ rest → rest ≡ flat_map member_bytes members → length members ≡ count → body ≡ set_body (record head { members = members })
unfolding set_head
set-found head count body rest members parts spells many = parts ∙ (λ i. set_head head (sym many i) ++ spells i)

pub set-long : (s : Set) (body : List ℕ) → body ≡ set_body s → 25 ≤ length body
set-long s body same =
    let all = ap (λ (xs : List ℕ). length xs) same in
    let both = length-append (set_head s (length s.members)) (flat_map member_bytes s.members) in
    let here = length-set_head s (length s.members) in
    omega (arith, all, both, here)

-- the head of a set and the number of its members were read of these bytes, with what is behind them
module _ {head s : Set} {count : ℕ} {body : List ℕ} (rest : List ℕ) (fits : SetHeadFits head) (few : count < 2 ^ 32) (is : IsSet s) (parts : body ≡ set_head head count ++ rest) (same : body ≡ set_body s) where
  pub set-told : SameSetHead head s count (length s.members) rest (flat_map member_bytes s.members)
  set-told = set_head_same head s count (length s.members) rest (flat_map member_bytes s.members) fits (set_fits s is) few (few_members s is) (sym parts ∙ same)

  pub members-told : All (IsMember head) s.members
  members-told k d inside = moved s head _ (sym set-told.dbid) (sym set-told.inc) (sym set-told.checkpoint) (is.members k d inside)

  pub set-is : {members : List SetFile} → members ≡ s.members → record head { members = members } ≡ s
  set-is are = λ i. record { dbid = set-told.dbid i; inc = set-told.inc i; checkpoint = set-told.checkpoint i; members = are i }
