-- What follows of a value follows of a result that has one.
use Rattle.std.proofs.Common.{Result, Ok, Err, IfOk, OnOk}

pub if-ok : {T E : Type 0} (result : Result T E) (P Q : T → Type 0) → ((value : T) → P value → Q value) → IfOk result P → IfOk result Q
if-ok (Ok value) P Q follows holds = follows value holds
if-ok (Err error) P Q follows holds = tt

pub on-ok : {T E : Type 0} (result : Result T E) (P Q : Type 0) → (P → Q) → OnOk result P → OnOk result Q
on-ok (Ok value) P Q follows holds = follows holds
on-ok (Err error) P Q follows holds = tt

-- whatever is known of the value, a fact of both
pub on-ok-both : {T E : Type 0} (result : Result T E) (P : T → Type 0) (Q : Type 0) → ((value : T) → P value → Q) → IfOk result P → OnOk result Q
on-ok-both (Ok value) P Q follows holds = follows value holds
on-ok-both (Err error) P Q follows holds = tt
