-- What a folder tells over several calls, where something is known only of what it tells.
use Rattle.std.specs.Prelude.{Option, Some, None}
use Rattle.view_ports.specs.Disk.{IfTold, Tells}

-- with what is known of the disk after
pub told_ended : {D : Type 0} (old new : Option D) (P : D → Type 0) (R S : D → D → Type 0) → ((a b : D) → P b → R a b → S a b) → IfTold new P → Tells old new R → Tells old new S
told_ended None None P R S then known told = tt
told_ended None (Some b) P R S then known told = absurd told
told_ended (Some a) None P R S then known told = absurd told
told_ended (Some a) (Some b) P R S then known told = then a b known told

module _ {D X : Type 0} where
  -- a second stretch that begins with something that the first one ends with
  pub told_by : (old mid new : Option D) (P : X → D → D → Type 0) (Q : X → D → Type 0) (S : X → D → D → Type 0) (T U : D → D → Type 0) → ((a b : D) (x : X) → P x a b → Q x b) → ((x : X) → IfTold mid (Q x) → Tells mid new (S x))
      → ((a b c : D) (x : X) → P x a b → S x b c → T a c) → Tells mid new U → Tells old mid (λ a b. (x : X) × P x a b) → Tells old new T
  told_by None None None P Q S T U begins goes ends told first = tt
  told_by None None (Some c) P Q S T U begins goes ends told first = absurd told
  told_by None (Some b) new P Q S T U begins goes ends told first = absurd first
  told_by (Some a) None new P Q S T U begins goes ends told first = absurd first
  told_by (Some a) (Some b) None P Q S T U begins goes ends told first = absurd told
  told_by (Some a) (Some b) (Some c) P Q S T U begins goes ends told first = ends a b c first.0 first.1 (goes first.0 (begins a b first.0 first.1))

  -- what never comes of it
  pub told_never : (old mid : Option D) (H : D → Type 0) (P : X → D → D → Type 0) (Q : X → D → Type 0) (N : Type 0) → ((a b : D) (x : X) → P x a b → Q x b) → ((x : X) → IfTold mid (λ d. Q x d → N))
      → (IfTold old H → Tells old mid (λ a b. (x : X) × P x a b)) → IfTold old (λ d. H d → N)
  told_never None mid H P Q N begins goes first = tt
  told_never (Some a) None H P Q N begins goes first = λ known. absurd (first known)
  told_never (Some a) (Some b) H P Q N begins goes first = λ known. let x = first known in goes x.0 (begins a b x.0 x.1)

-- what comes of what is known after is known before
pub told_before : {D : Type 0} (old mid : Option D) (H : D → Type 0) (P : D → D → Type 0) (Q : D → Type 0) (N : Type 0) → ((a b : D) → P a b → Q b) → IfTold mid (λ d. Q d → N) → (IfTold old H → Tells old mid P) → IfTold old (λ d. H d → N)
told_before None mid H P Q N begins after first = tt
told_before (Some a) None H P Q N begins after first = λ known. absurd (first known)
told_before (Some a) (Some b) H P Q N begins after first = λ known. after (begins a b (first known))
