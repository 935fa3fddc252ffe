-- A file that is opened.
use Rattle.std.proofs.Common.{Result, Ok, Err, IfOk, OnOk}

pub takes_of : {T E : Type 0} (r : Result T E) (O C P : Type 0) → OnOk r O → (C → OnOk r P) → OnOk r (O × (C → P))
takes_of (Ok x) O C P ours h = (ours, h)
takes_of (Err e) O C P ours h = tt

pub reads_of : {T E : Type 0} (r : Result T E) (O C Q : Type 0) (P L : T → Type 0) → IfOk r (λ _. O) → (C → IfOk r (λ x. Q × P x)) → (C → IfOk r L)
    → IfOk r (λ x. O × (C → P x × L x))
reads_of (Ok x) O C Q P L ours h k = (ours, λ c. ((h c).1, k c))
reads_of (Err e) O C Q P L ours h k = tt
