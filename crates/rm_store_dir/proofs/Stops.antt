-- What a machine that stops may keep of a folder, after one call and another.
use Rattle.std.{specs.Prelude.{IfSome}, proofs.Common.{◌≡◌, ◌≢◌, ◌∙◌, ℕ, List, Option, Some, None, Contains, inl, inr, sym, subst, rules}}
use Rattle.rm_base.specs.Store.{Held, Both, HasNow, SameBut}
use Rattle.rm_store_dir.specs.Folder.{Kept, MayHave, KeepsBut, MayMove, MaySettle}

-- the name keeps what another one's call left it
keeps-before : (name beside : List ℕ) (held : Option (List ℕ)) (a b c : Kept) → beside ≢ name → KeepsBut beside a b → MayHave name held b c → MayHave name held a c
keeps-before name beside held a b c apart same may x has =
    elim (may x has) [ inl k ↦ inl (subst (λ xs. Contains xs x) (same name (λ e. apart (sym e))) k) | inr e ↦ inr e ]

keeps-after : (name beside : List ℕ) (held : Option (List ℕ)) (a b c : Kept) → beside ≢ name → MayHave name held a b → KeepsBut beside b c → MayHave name held a c
keeps-after name beside held a b c apart may same x has = may x (subst (λ xs. Contains xs x) (same name (λ e. apart (sym e))) has)

-- what a sync may make durable is what the name has
settles : (name : List ℕ) (held now : Option (List ℕ)) (a b c : Kept) → now ≡ held → MayHave name held a b → MayHave name now b c → MayHave name held a c
settles name held now a b c is may more x has = elim (more x has) [ inl k ↦ may x k | inr e ↦ inr (e ∙ is) ]

pub renamed : (name beside bytes : List ℕ) (f0 f1 : Option Held) (k0 k1 k2 : Kept) → beside ≢ name → Both (HasNow beside (Some bytes)) f0 f1 → KeepsBut beside k0 k1 → IfSome f1 (λ h. MayMove name beside (h beside) k1 k2) → IfSome f0 (λ x. MayHave name (Some bytes) k0 k2)
renamed name beside bytes None f1 k0 k1 k2 apart has same moves = search rules
renamed name beside bytes (Some a) None k0 k1 k2 apart has same moves = absurd has
renamed name beside bytes (Some a) (Some b) k0 k1 k2 apart has same moves =
    keeps-before name beside (Some bytes) k0 k1 k2 apart same (subst (λ held. MayHave name held k1 k2) has moves.may)

pub synced : (name : List ℕ) (held : Option (List ℕ)) (f0 f1 : Option Held) (k0 k1 k2 : Kept) → Both (HasNow name held) f0 f1 → IfSome f0 (λ x. MayHave name held k0 k1) → IfSome f1 (λ h. MaySettle h k1 k2) → IfSome f0 (λ x. MayHave name held k0 k2)
synced name held None f1 k0 k1 k2 has may settle = search rules
synced name held (Some a) None k0 k1 k2 has may settle = absurd has
synced name held (Some a) (Some b) k0 k1 k2 has may settle = settles name held (b name) k0 k1 k2 has may (settle name)

-- a call under another name before those that a claim is of
pub begun : (name beside : List ℕ) (held : Option (List ℕ)) (f0 f1 : Option Held) (k0 k1 k2 : Kept) → beside ≢ name → Both (SameBut beside) f0 f1 → KeepsBut beside k0 k1 → IfSome f1 (λ x. MayHave name held k1 k2) → IfSome f0 (λ x. MayHave name held k0 k2)
begun name beside held None f1 k0 k1 k2 apart both same may = search rules
begun name beside held (Some a) None k0 k1 k2 apart both same may = absurd both
begun name beside held (Some a) (Some b) k0 k1 k2 apart both same may = keeps-before name beside held k0 k1 k2 apart same may

-- a call under another name behind those
pub ended : (name beside : List ℕ) (held : Option (List ℕ)) (f0 : Option Held) (k0 k1 k2 : Kept) → beside ≢ name → IfSome f0 (λ x. MayHave name held k0 k1) → KeepsBut beside k1 k2 → IfSome f0 (λ x. MayHave name held k0 k2)
ended name beside held None k0 k1 k2 apart may same = search rules
ended name beside held (Some a) k0 k1 k2 apart may same = keeps-after name beside held k0 k1 k2 apart may same

pub told-where : (name : List ℕ) (held : Option (List ℕ)) (f0 : Option Held) (k0 k1 : Kept) → MayHave name held k0 k1 → IfSome f0 (λ x. MayHave name held k0 k1)
told-where name held None k0 k1 may = search rules
told-where name held (Some a) k0 k1 may = may
