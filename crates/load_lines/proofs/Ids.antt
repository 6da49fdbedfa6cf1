-- The ids of a load's documents are apart, and none of the numbered ones begins with an underscore.
use Rattle.std.proofs.Common.{◌≡◌, ℕ, zero, suc, ◌-◌, ◌<◌, ◌^◌, List, ◌++◌, drop, length, replicate, codes, decimal, true, false, refl, sym, ap, ◌∙◌}
use Rattle.std.specs.Str.Parse.{digits_value}
use Rattle.std.proofs.lemmas.Fmt.{decimal_is_IsNumeral}
use Rattle.design_docs.specs.Documents.{is_special, is_design_id}
use Rattle.load_lines.specs.Documents.{document_id}

-- zeros in front leave the number as it is
value-zeros : (n : ℕ) (digits : List ℕ) → digits_value 10 (replicate n 48 ++ digits) ≡ digits_value 10 digits
value-zeros zero digits = refl
value-zeros (suc n) digits = value-zeros n digits

-- the digits of an id write the number
value-document_id : (k : ℕ) → k < 2 ^ 64 → digits_value 10 (drop 3 (document_id k)) ≡ k
unfolding document_id
value-document_id k small = value-zeros (6 - length (decimal k)) (decimal k) ∙ (decimal_is_IsNumeral k small).1

-- Documents with one id have one number.
pub document_id-inj : (j k : ℕ) → j < 2 ^ 64 → k < 2 ^ 64 → document_id j ≡ document_id k → j ≡ k
document_id-inj j k few many same = sym (value-document_id j few) ∙ ap (λ id. digits_value 10 (drop 3 id)) same ∙ value-document_id k many

pub document_id-not_special : (k : ℕ) → is_special (document_id k) ≡ false
unfolding document_id
document_id-not_special k = refl

pub document_id-not_design : (k : ℕ) → is_design_id (document_id k) ≡ false
unfolding document_id
document_id-not_design k = refl

-- .. so the design document's id is another
pub document_id-not_load : (k : ℕ) → document_id k ≡ codes "_design/load" → ⊥
unfolding document_id
document_id-not_load k same = let designs : true ≡ false = sym (ap is_design_id same) ∙ document_id-not_design k in cc
