-- How far a child's session has come.
use Rattle.std.specs.Prelude.{◌≡◌, ℕ, zero, suc, List, [], take, true, Some}
use Rattle.std.specs.List.{AllByRecursion}
use Rattle.view_ports.specs.Calls.{Call, session, child}
use Rattle.view_ports.specs.Functions.{Functions}

-- the slot's child was started by this path, has these sources, hasn't answered these lines, and has printed so many log
-- lines since its last answer; no call of its session failed, and no line was too long
pub record IsInSession (path : List ℕ) (sources waiting : List (List ℕ)) (logs slot : ℕ) (calls : List Call) : Type 0 where
  pub is : child slot calls ≡ Some (session path sources waiting logs true)

-- it has answered each line
abbrev pub IsIdle : List ℕ → List (List ℕ) → ℕ → List Call → Type 0
IsIdle path sources slot calls = IsInSession path sources [] 0 slot calls

-- a child that was started by this path is there, and has answered each line
abbrev pub IsThere : List ℕ → ℕ → List Call → Type 0
IsThere path slot calls = (old : List (List ℕ)) × IsIdle path old slot calls

-- each source compiles
abbrev pub AllCompile : Functions → List (List ℕ) → Type 0
AllCompile functions sources = AllByRecursion (λ source. functions.compiles source ≡ true) sources

-- how far the session is made ready: at 0 the child is there, at 1 it is reset, and then it has one source more each time;
-- on an honest path the sources that it has compile
pub record HasTold (functions : List ℕ → Functions) (honest : List ℕ → Type 0) (path : List ℕ) (sources : List (List ℕ)) (slot : ℕ) (calls : List Call) : Type 0 where
  pub idle : IsIdle path sources slot calls
  pub compile : honest path → AllCompile (functions path) sources

abbrev pub IsTold : (List ℕ → Functions) → (List ℕ → Type 0) → List ℕ → List (List ℕ) → ℕ → ℕ → List Call → Type 0
IsTold functions honest path sources zero slot calls = IsThere path slot calls
IsTold functions honest path sources (suc told) slot calls = HasTold functions honest path (take told sources) slot calls
