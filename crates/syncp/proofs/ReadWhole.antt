-- An input that is read whole, and is a trace or a script, is not refused.
use Rattle.std.proofs.Common.{◌≡◌, ◌≤◌, ◌<◌, ℕ, List, ◌++◌, length, Some, None, Ok, Err, refl, sym, ap, ◌∙◌, inl, inr, subst, append-nil, length-append, arith}
use Rattle.std.specs.declared.option.Option.{Option}
use Rattle.std.specs.Io.KnownBytes.{Consumes, IsAtEnd}
use Rattle.sp_base.specs.declared.limits.TheConstants.{MAX_INPUT}
use Rattle.std_text.specs.Refusal.{Refusal, ◌>>=◌}
use Rattle.std_text.specs.Framing.{Progress, start, after, closed}
use Rattle.std_text.proofs.TextPieces.{after_fault}
use Rattle.script_machine.specs.Laws.{ExclusiveLaw}
use Rattle.script_machine.specs.Machine.{Script}
use Rattle.script_machine.specs.ScriptText.{FirstFault}
use Rattle.pattern_walk.specs.Listed.{HasMorePatterns}
use Rattle.predictor.specs.Predictions.{HasFewPatterns}
use Rattle.intake.specs.Reads.{IsScriptOf}
use Rattle.intake.specs.TraceTexts.{IsStd, IsKnownFault}
use Rattle.syncp.specs.declared.outcome.Fault.{Fault}
use Rattle.syncp.specs.declared.outcome.Fault.TheVariants as fault
use Rattle.syncp.specs.Refusals.{IsPastPatterns, IsRefusedScript}

-- an input in the grammar of traces has no fault
pub no_fault : (new : Option (List ℕ)) (all input : List ℕ) (p : Progress) (r : Refusal) → Consumes (Some all) new input → IsStd all p → IsKnownFault (IsAtEnd new) input r → ⊥
no_fault None all input p r c std known = c
no_fault (Some rest) all input p r c std (inl early) =
    let whole : after start all ≡ Err r = ap (after start) c ∙ after_fault start input rest r early in
    let refused : (after start all >>= closed) ≡ Err r = rw whole refl in
    cc
no_fault (Some rest) all input p r c std (inr late) =
    let same : all ≡ input = c ∙ ap (λ l. input ++ l) late.0 ∙ append-nil input in
    let whole : (after start all >>= closed) ≡ Err r = ap (λ l. after start l >>= closed) same ∙ late.1 in
    cc

-- an input within the limit is not taken past it
pub no_excess : (new : Option (List ℕ)) (all input : List ℕ) → Consumes (Some all) new input → length all ≤ MAX_INPUT → MAX_INPUT < length input → ⊥
no_excess None all input c few over = c
no_excess (Some rest) all input c few over = omega (arith, ap length c, length-append input rest, few, over)

-- what was taken of a source at its end is all that it had
pub taken_all : (new : Option (List ℕ)) (all input : List ℕ) → Consumes (Some all) new input → IsAtEnd new → all ≡ input
taken_all None all input c ended = absurd c
taken_all (Some rest) all input c ended = c ∙ ap (λ l. input ++ l) ended ∙ append-nil input

-- a trace that has not too many patterns is not refused for them
pub few_patterns : (new : Option (List ℕ)) (all input : List ℕ) (size : ℕ) (p : Progress) → Consumes (Some all) new input → IsStd all p → HasFewPatterns p.reading.events size → IsPastPatterns (IsAtEnd new) input size → ⊥
few_patterns new all input size p c std few past =
    let same : all ≡ input = taken_all new all input c past.3 in
    let here = past.1 in
    let one : p ≡ past.0 = (let again : (after start input >>= closed) ≡ Ok p = subst (λ text. IsStd text p) same std in cc) in
    few (subst (λ (q : Progress). HasMorePatterns q.reading.events size) (sym one) past.2)

-- a script within the limit of an input is not refused
pub script_not_refused : ExclusiveLaw → (f : Fault) (new : Option (List ℕ)) (all input : List ℕ) → Consumes (Some all) new input → ((program : Script) × IsScriptOf all program) → IsRefusedScript (IsAtEnd new) f input → ⊥
script_not_refused law (fault.Text f holder) new all input c std known = no_excess new all input c std.1.few known.0.over
script_not_refused law (fault.Script f) new all input c std known =
    let same = taken_all new all input c known.2 in
    (law all std.0 std.1.scripts).1 f (subst (λ text. FirstFault text f) (sym same) known.1)
script_not_refused law (fault.NotAStep place) new all input c std known = known
script_not_refused law fault.TooManyPatterns new all input c std known = known
script_not_refused law fault.NoFinding new all input c std known = known
script_not_refused law fault.Read new all input c std known = known
script_not_refused law fault.Write new all input c std known = known
script_not_refused law fault.OutOfMemory new all input c std known = known
