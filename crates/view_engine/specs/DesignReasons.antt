-- Why a design is refused, as a reply says it.
use Rattle.std.specs.Prelude.{ℕ, List, ◌++◌, codes}
use Rattle.design_docs.specs.declared.fault.DesignFault.{DesignFault}
use Rattle.design_docs.specs.declared.fault.DesignFault.TheVariants.{BadLanguage, BadViews, BadOption, BadView, UnknownBuiltin, NoMemory}

-- what is at fault, and its name where there may be several; want of memory is no fault of a document
abbrev pub design_reason : DesignFault → List ℕ
design_reason BadViews = codes "views"
design_reason (BadView name) = codes "view " ++ name
design_reason (BadOption name) = codes "option " ++ name
design_reason (UnknownBuiltin name) = codes "builtin " ++ name
design_reason BadLanguage = codes "language"
design_reason NoMemory = codes "out of memory"
