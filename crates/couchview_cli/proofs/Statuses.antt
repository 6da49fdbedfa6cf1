-- What the status of a run says.
use Rattle.std.specs.Prelude.{◌≡◌, ◌≢◌, ◌<◌, ◌⊎◌, ℕ, List, [], Option, Some, None, length}
use Rattle.std.proofs.Common.{refl, sym, ap, ◌∙◌, subst, arith, inl, inr, length-append}
use Rattle.std.proofs.KnownBytes.{Consumes-nil}
use Rattle.std.specs.Io.KnownBytes.{Consumes}
use Rattle.view_ports.specs.declared.file_name.FileName.{FileName}
use Rattle.view_ports.specs.declared.run_end.RunEnd.{RunEnd}
use Rattle.view_ports.specs.declared.run_end.RunEnd.TheVariants.{InputEnded, SinkFailed, SourceFailed, OutOfMemory, InputTooLong}
use Rattle.view_ports.specs.Calls.{Call}
use Rattle.view_ports.specs.Disk.{IfTold}
use Rattle.view_ports.specs.Exchanges.{text_of}
use Rattle.view_ports.specs.Functions.{Functions}
use Rattle.view_ports.specs.Runs.{HasRead, status_of, input_limit}
use Rattle.view_ports.proofs.Told.{told_all, told_now}
use Rattle.view_engine.specs.declared.halt.StepFault.{StepFault}
use Rattle.view_engine.specs.declared.halt.StepFault.TheVariants.{DiskFault, Damaged, Full, NoMemory}
use Rattle.view_engine.specs.World.{World}
use Rattle.couchview_cli.specs.Closing.{Closes, fault_status}
use Rattle.couchview_cli.specs.Reading.{AnswersLines}
use Rattle.couchview_cli.specs.Serving.{Clashes, EndsAtFile, IsShort, Outside, Serves, StopsAtLimit}

-- no run ends with the status of words that are no command
pub fault_no_usage : (fault : StepFault) → fault_status fault ≢ 2
fault_no_usage DiskFault is = omega (arith, is)
fault_no_usage (Damaged name at) is = omega (arith, is)
fault_no_usage (Full name size) is = omega (arith, is)
fault_no_usage NoMemory is = omega (arith, is)

-- nor with that of the source, or of a folder that has writes, where a fault ends it
pub fault_others : (fault : StepFault) → (fault_status fault ≢ 5) × (fault_status fault ≢ 8) × (fault_status fault ≢ 10)
fault_others DiskFault = (λ is. omega (arith, is), λ is. omega (arith, is), λ is. omega (arith, is))
fault_others (Damaged name at) = (λ is. omega (arith, is), λ is. omega (arith, is), λ is. omega (arith, is))
fault_others (Full name size) = (λ is. omega (arith, is), λ is. omega (arith, is), λ is. omega (arith, is))
fault_others NoMemory = (λ is. omega (arith, is), λ is. omega (arith, is), λ is. omega (arith, is))

pub closed_others : (before after : Option (List ℕ)) (text : List ℕ) (fault : StepFault) (status : ℕ) → Closes before after text fault status → (status ≢ 2) × (status ≢ 5) × (status ≢ 8) × (status ≢ 10)
closed_others before after text fault status (inl (is, wrote)) =
    let others = fault_others fault in
    (λ two. fault_no_usage fault (sym is ∙ two), λ five. others.0 (sym is ∙ five), λ eight. others.1 (sym is ∙ eight), λ ten. others.2 (sym is ∙ ten))
closed_others before after text fault status (inr (is, wrote)) = (λ two. omega (arith, is, two), λ five. omega (arith, is, five), λ eight. omega (arith, is, eight), λ ten. omega (arith, is, ten))

-- a status that is not that of a fault, and not 4, tells of another one
pub other_than : (named : StepFault) (before after : Option (List ℕ)) (fault : StepFault) (status : ℕ) → Closes before after [] fault status → status ≢ fault_status named → status ≢ 4 → fault ≢ named
other_than named before after fault status (inl closes) other four is = other (closes.0 ∙ ap fault_status is)
other_than named before after fault status (inr closes) other four is = four closes.0

pub spared_by : (before after : Option (List ℕ)) (fault : StepFault) (status : ℕ) → Closes before after [] fault status → status ≢ 3 → status ≢ 4 → fault ≢ DiskFault
spared_by = other_than DiskFault

pub end_no_load : (end : RunEnd) → status_of end ≢ 10
end_no_load InputEnded is = omega (arith, is)
end_no_load SinkFailed is = omega (arith, is)
end_no_load SourceFailed is = omega (arith, is)
end_no_load OutOfMemory is = omega (arith, is)
end_no_load InputTooLong is = omega (arith, is)

pub end_no_usage : (end : RunEnd) → status_of end ≢ 2
end_no_usage InputEnded is = omega (arith, is)
end_no_usage SinkFailed is = omega (arith, is)
end_no_usage SourceFailed is = omega (arith, is)
end_no_usage OutOfMemory is = omega (arith, is)
end_no_usage InputTooLong is = omega (arith, is)

-- what is consumed is no longer than what was left
consumed_short : (before after : Option (List ℕ)) (bytes : List ℕ) → Consumes before after bytes → IsShort before → length bytes < input_limit
consumed_short None after bytes reads short = absurd short
consumed_short (Some left) None bytes reads short = absurd reads
consumed_short (Some left) (Some rest) bytes reads short = omega (arith, ap length reads, length-append bytes rest, short)

complete : (end : RunEnd) (status count : ℕ) → status ≡ status_of end → HasRead end count → count < input_limit → (status ≡ 4 → ⊥) → (status ≡ 5 → ⊥) → (status ≡ 0) ⊎ (status ≡ 6)
complete InputEnded status count is counts short sink source = inl is
complete SinkFailed status count is counts short sink source = absurd (sink is)
complete SourceFailed status count is counts short sink source = absurd (source is)
complete OutOfMemory status count is counts short sink source = inr is
complete InputTooLong status count is counts short sink source = absurd (omega arith)

at_limit : (end : RunEnd) (count : ℕ) → HasRead end count → status_of end ≡ 8 → count ≡ input_limit
at_limit InputEnded count counts is = absurd (omega arith)
at_limit SinkFailed count counts is = absurd (omega arith)
at_limit SourceFailed count counts is = absurd (omega arith)
at_limit OutOfMemory count counts is = absurd (omega arith)
at_limit InputTooLong count counts is = counts

abbrev Stops : ℕ → Type 0
Stops s = (s ≡ 8) ⊎ ((s ≡ 3) ⊎ ((s ≡ 4) ⊎ ((s ≡ 6) ⊎ ((s ≡ 7) ⊎ (s ≡ 9)))))

stops : (end : RunEnd) (count : ℕ) → HasRead end count → count ≡ input_limit → Stops (status_of end)
stops InputEnded count counts is = absurd (omega arith)
stops SinkFailed count counts is = inr (inr (inl refl))
stops SourceFailed count counts is = absurd (omega arith)
stops OutOfMemory count counts is = inr (inr (inr (inl refl)))
stops InputTooLong count counts is = inl refl

fault_stops : (fault : StepFault) → Stops (fault_status fault)
fault_stops DiskFault = inr (inl refl)
fault_stops (Damaged name at) = inr (inr (inr (inr (inl refl))))
fault_stops (Full name size) = inr (inr (inr (inr (inr refl))))
fault_stops NoMemory = inr (inr (inr (inl refl)))

-- the status of a last line
closed_stops : (before after : Option (List ℕ)) (text : List ℕ) (fault : StepFault) (status : ℕ) → Closes before after text fault status → Stops status
closed_stops before after text fault status (inl whole) = subst Stops (sym whole.0) (fault_stops fault)
closed_stops before after text fault status (inr failed) = inr (inr (inl failed.0))

fault_not_8 : (fault : StepFault) → fault_status fault ≡ 8 → ⊥
fault_not_8 DiskFault is = omega arith
fault_not_8 (Damaged name at) is = omega arith
fault_not_8 (Full name size) is = omega arith
fault_not_8 NoMemory is = omega arith

not_8 : (before after : Option (List ℕ)) (text : List ℕ) (fault : StepFault) (status : ℕ) → Closes before after text fault status → status ≡ 8 → ⊥
not_8 before after text fault status (inl whole) is = fault_not_8 fault (sym whole.0 ∙ is)
not_8 before after text fault status (inr failed) is = omega (arith, failed.0)

-- without damage, and where no file is full, a fault is one of the disk or of memory
faulted : (fault : StepFault) (status : ℕ) → status ≡ fault_status fault → ((name : FileName) (at : ℕ) → fault ≡ Damaged name at → ⊥) → ((name : FileName) (length : Option ℕ) → fault ≡ Full name length → ⊥) → (status ≡ 3 → ⊥)
    → (status ≡ 0) ⊎ (status ≡ 6)
faulted DiskFault status is whole room disk = absurd (disk is)
faulted (Damaged name at) status is whole room disk = absurd (whole name at refl)
faulted (Full name size) status is whole room disk = absurd (room name size refl)
faulted NoMemory status is whole room disk = inr is

pub closed : (before after : Option (List ℕ)) (text : List ℕ) (fault : StepFault) (status : ℕ) → Closes before after text fault status → ((name : FileName) (at : ℕ) → fault ≡ Damaged name at → ⊥)
    → ((name : FileName) (length : Option ℕ) → fault ≡ Full name length → ⊥) → (status ≡ 3 → ⊥) → (status ≡ 4 → ⊥) → (status ≡ 0) ⊎ (status ≡ 6)
closed before after text fault status (inl written) whole room disk sink = faulted fault status written.0 whole room disk
closed before after text fault status (inr failed) whole room disk sink = absurd (sink failed.0)

module _ {functions : List ℕ → Functions} {honest : List ℕ → Type 0} {languages : List (List ℕ × List ℕ)} {opening : World} {AtEnd : List Call → Type 0} (before after : Outside) (status : ℕ) where
  -- input that is short enough is read to its end, unless a port fails, memory runs out, a full file ends the run, or designs clash
  complete_of : Serves functions honest languages opening before after AtEnd status → IsShort before.left → (status ≡ 3 → ⊥) → (status ≡ 4 → ⊥) → (status ≡ 5 → ⊥)
      → (EndsAtFile functions honest languages opening before after AtEnd status → ⊥) → (Clashes functions honest languages opening before after status → ⊥) → IfTold before.disk (λ d. (status ≡ 0) ⊎ (status ≡ 6))
  complete_of (inl finishes) short disk sink source roomy apart =
      told_all before.disk _ (λ d. complete finishes.end status (length finishes.bytes) finishes.ends finishes.counts (consumed_short before.left after.left finishes.bytes finishes.reads short) sink source)
  complete_of (inr (inl cut)) short disk sink source roomy apart =
      told_now before.disk (λ d. (name : FileName) (at : ℕ) → cut.fault ≡ Damaged name at → ⊥) _
      (λ d whole. closed before.held after.held (text_of cut.exchanges) cut.fault status cut.closes whole (λ name size is. roomy (cut, (name, size, is))) disk sink) cut.whole
  complete_of (inr (inr (inl unopened))) short disk sink source roomy apart =
      told_now before.disk (λ d. (name : FileName) (at : ℕ) → unopened.fault ≡ Damaged name at → ⊥) _
      (λ d whole. closed before.held after.held [] unopened.fault status unopened.closes whole unopened.room disk sink) unopened.whole
  complete_of (inr (inr (inr clash))) short disk sink source roomy apart = absurd (apart clash)

  -- the same where the languages are named in another way
  pub Serves-complete : {named : List (List ℕ × List ℕ)} → languages ≡ named → Serves functions honest languages opening before after AtEnd status → IsShort before.left → (status ≡ 3 → ⊥) → (status ≡ 4 → ⊥) → (status ≡ 5 → ⊥)
      → (EndsAtFile functions honest named opening before after AtEnd status → ⊥) → (Clashes functions honest named opening before after status → ⊥) → IfTold before.disk (λ d. (status ≡ 0) ⊎ (status ≡ 6))
  Serves-complete same serves short disk sink source roomy apart =
      complete_of serves short disk sink source (λ full. roomy (subst (λ (ls : List (List ℕ × List ℕ)). EndsAtFile functions honest ls opening before after AtEnd status) same full))
      (λ clash. apart (subst (λ (ls : List (List ℕ × List ℕ)). Clashes functions honest ls opening before after status) same clash))

-- a run that read as many bytes as a run reads at most ends there
pub limited : (before after : Outside) (status : ℕ) → AnswersLines before after status → StopsAtLimit before.left after.left status
limited before after status (inl ended) = record {
  bytes = ended.bytes;
  reads = ended.reads;
  limited = λ eight. at_limit ended.end (length ended.bytes) ended.counts (sym ended.ends ∙ eight);
  stopped = λ full. subst Stops (sym ended.ends) (stops ended.end (length ended.bytes) ended.counts full);
}
limited before after status (inr (inl cut)) = record {
  bytes = cut.bytes;
  reads = cut.reads;
  limited = λ eight. absurd (not_8 cut.held after.held [] cut.fault status cut.closes eight);
  stopped = λ full. closed_stops cut.held after.held [] cut.fault status cut.closes;
}
limited before after status (inr (inr unopened)) = record {
  bytes = [];
  reads = subst (λ (left : Option (List ℕ)). Consumes before.left left []) (sym unopened.unread) (Consumes-nil before.left);
  limited = λ eight. absurd (not_8 before.held after.held [] unopened.fault status unopened.closes eight);
  stopped = λ full. closed_stops before.held after.held [] unopened.fault status unopened.closes;
}
