-- What a reader answers, as a fault with the name of the holder tells it.
use Rattle.std.proofs.Common.{◌≡◌, Ok, Err, refl, sym, ap, ◌∙◌, subst, Result}
use Rattle.trace_laws.specs.Names.{NameLists}
use Rattle.std_text.specs.Framing.{Progress}
use Rattle.std_text.specs.Told.{Told, Failed, Gives, ReadsOn, ReadsFrom, answer_of}
use Rattle.std_text.specs.Refusal.{Refusal}
use Rattle.std_text.specs.declared.fault.ReadFault.{ReadFault}
use Rattle.std_text.specs.declared.fault.ReadFault.TheVariants as read
use Rattle.intake.specs.declared.fault.IntakeFault.{IntakeFault}
use Rattle.intake.specs.declared.fault.IntakeFault.TheVariants.{Text, Script, Read, OutOfMemory}
use Rattle.intake.specs.Faults.{TellsFault, TellsRefusal}
use Rattle.intake.specs.Reads.{GoesOn}

-- after Ok the reader is where the text leads
answered_ok : (r : Result Progress ReadFault) (names : NameLists) (x : Result Progress Refusal) (u : Unit {0}) → Gives r names x → Ok u ≡ answer_of r → (q : Progress) × (x ≡ Ok q) × (r ≡ Ok q)
answered_ok (Ok q) names x u gives e = (q, gives, refl)
answered_ok (Err f) names x u gives e = cc

-- after a fault the text is refused
answered_err : (r : Result Progress ReadFault) (names : NameLists) (x : Result Progress Refusal) (f : ReadFault) → Gives r names x → Err f ≡ answer_of r → Failed f names x
answered_err (Ok q) names x f gives e = cc
answered_err (Err h) names x f gives e = let same : h ≡ f = cc in subst (λ v. Failed v names x) same gives

-- a reader that has not failed goes on by the step
gives_at : (old new : Told) (step : Progress → Result Progress Refusal) (p : Progress) → old.read ≡ Ok p → ReadsOn old step new → Gives new.read new.names (step p)
gives_at old new step p is reads = subst (λ r. ReadsFrom r old.names step new) is reads

-- a refusal, as the fault tells it
tells_refusal : (e : ReadFault) (f : IntakeFault) (names : NameLists) (x : Result Progress Refusal) → Failed e names x → TellsFault names e f → TellsRefusal x f
tells_refusal (read.Text e) (Text f holder) names x failed tells = failed.0 ∙ ap Err (sym tells)
tells_refusal (read.Text e) (Script g) names x failed tells = absurd tells
tells_refusal (read.Text e) Read names x failed tells = absurd tells
tells_refusal (read.Text e) OutOfMemory names x failed tells = tt
tells_refusal read.OutOfMemory (Text f holder) names x failed tells = absurd tells
tells_refusal read.OutOfMemory (Script g) names x failed tells = absurd tells
tells_refusal read.OutOfMemory Read names x failed tells = absurd tells
tells_refusal read.OutOfMemory OutOfMemory names x failed tells = tt

module _ (old new : Told) (step : Progress → Result Progress Refusal) (reads : ReadsOn old step new) (p : Progress) (at_p : old.read ≡ Ok p) where
  -- the step was taken
  pub taken : (u : Unit {0}) → Ok u ≡ answer_of new.read → GoesOn (step p) new (Ok tt)
  taken u answer = answered_ok new.read new.names (step p) u (gives_at old new step p at_p reads) answer

  -- the step was refused
  pub refused : (e : ReadFault) (f : IntakeFault) → Err e ≡ answer_of new.read → TellsFault new.names e f → TellsRefusal (step p) f
  refused e f answer tells = tells_refusal e f new.names (step p) (answered_err new.read new.names (step p) e (gives_at old new step p at_p reads) answer) tells
