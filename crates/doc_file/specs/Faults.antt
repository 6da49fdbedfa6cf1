-- What a fault of a design, or of the documents' file, is to a call on documents.
use Rattle.design_docs.specs.declared.fault.DesignFault.{DesignFault}
use Rattle.design_docs.specs.declared.fault.DesignFault.TheVariants as design
use Rattle.gate_file.specs.declared.fault.GateFault.{GateFault}
use Rattle.gate_file.specs.declared.fault.GateFault.TheVariants.{DiskFault, Full, Damaged, NoMemory as GateNoMemory}
use Rattle.doc_file.specs.declared.fault.DocFault.{DocFault}
use Rattle.doc_file.specs.declared.fault.DocFault.TheVariants.{BadDesign, Gate, NoMemory}

-- want of memory has one name
abbrev pub doc_fault : GateFault → DocFault
doc_fault GateNoMemory = NoMemory
doc_fault DiskFault = Gate DiskFault
doc_fault (Full name length) = Gate (Full name length)
doc_fault (Damaged name offset) = Gate (Damaged name offset)

-- so has that of a design
abbrev pub bad_design : DesignFault → DocFault
bad_design design.NoMemory = NoMemory
bad_design design.BadViews = BadDesign design.BadViews
bad_design (design.BadView name) = BadDesign (design.BadView name)
bad_design (design.BadOption name) = BadDesign (design.BadOption name)
bad_design (design.UnknownBuiltin name) = BadDesign (design.UnknownBuiltin name)
bad_design design.BadLanguage = BadDesign design.BadLanguage
