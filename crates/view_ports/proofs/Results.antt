-- What a call ensures of its result, carried on.
use Rattle.std.specs.Result.{OnOk, OnErr, IfOk, IfErr}
use Rattle.std.proofs.Common.{Result, Ok, Err}

pub OnOk-map : {T E : Type 0} (result : Result T E) (P Q : Type 0) → (P → Q) → OnOk result P → OnOk result Q
OnOk-map (Ok value) P Q f on = f on
OnOk-map (Err fault) P Q f on = tt

pub OnErr-map : {T E : Type 0} (result : Result T E) (P Q : Type 0) → (P → Q) → OnErr result P → OnErr result Q
OnErr-map (Ok value) P Q f on = tt
OnErr-map (Err fault) P Q f on = f on

-- the same of two facts
pub OnOk-join : {T E : Type 0} (result : Result T E) (P Q R : Type 0) → (P → Q → R) → OnOk result P → OnOk result Q → OnOk result R
OnOk-join (Ok value) P Q R f first second = f first second
OnOk-join (Err fault) P Q R f first second = tt

-- the same of a fact on the error
pub IfErr-map : {T E : Type 0} (result : Result T E) (P Q : E → Type 0) → ((e : E) → P e → Q e) → IfErr result P → IfErr result Q
IfErr-map (Ok value) P Q f on = tt
IfErr-map (Err fault) P Q f on = f fault on

pub IfOk-map : {T E : Type 0} (result : Result T E) (P Q : T → Type 0) → ((value : T) → P value → Q value) → IfOk result P → IfOk result Q
IfOk-map (Ok value) P Q f on = f value on
IfOk-map (Err fault) P Q f on = tt
