-- How a run ended, by its status.
use Rattle.std.proofs.Common.{◌≡◌, ℕ, List, inl, inr, sym, subst, ◌∙◌, Option, Some, None}
use Rattle.desk_io.specs.Told.{PortTold}
use Rattle.desk_io.specs.declared.Port.TheVariants.{Complaint}
use Rattle.job_words.specs.declared.job.Job.{Job}
use Rattle.dp2ll.specs.declared.ending.Ending.{Ending}
use Rattle.dp2ll.specs.Ending.{status_of, complaint_of}
use Rattle.dp2ll.specs.Complaint.{Tells, Complains}
use Rattle.dp2ll.specs.Serving.{Desk, RefuseCause, ServesJob, Serves}
use Rattle.dp2ll.specs.Headline.{Run, Headline, desk_before, desk_after, EndsBy}

-- a status that isn't 5 is the ending's own, and its complaint was told
told_own : (complaint : Option (List ℕ)) (own status wanted : ℕ) (before after : PortTold) → Complains complaint own before after status
    → status ≡ wanted → (wanted ≡ 5 → ⊥) → (own ≡ wanted) × Tells complaint before after
told_own complaint own status wanted before after (inl (is, tells)) same other = (sym is ∙ same, tells)
told_own complaint own status wanted before after (inr (five, front)) same other = absurd (other (sym same ∙ five))

-- the same of a run
pub own_of : (run : Run) (h : Headline run) (wanted : ℕ) → run.status ≡ wanted → (wanted ≡ 5 → ⊥)
    → (status_of h.how ≡ wanted) × Tells (complaint_of h.how) (run.before.at Complaint) (run.after.at Complaint)
own_of run h wanted same other =
    told_own (complaint_of h.how) (status_of h.how) run.status wanted (run.before.at Complaint) (run.after.at Complaint) h.complains same other

-- a run that was not refused before anything was begun served its command
serves_of : (job : Option Job) (before after : Desk) (how : Ending) → Serves job before after how → (RefuseCause how → ⊥)
    → ServesJob job before after how
serves_of None before after how refuses other = absurd (other refuses.cause)
serves_of (Some job) before after how (inl serves) other = serves
serves_of (Some job) before after how (inr gives_up) other = absurd (other (rw gives_up.cause tt))

-- a run that ended like this ended by its cause
pub ends_by : (run : Run) (h : Headline run) (how : Ending) → h.how ≡ how → Tells (complaint_of h.how) (run.before.at Complaint) (run.after.at Complaint)
    → (RefuseCause how → ⊥) → EndsBy run how
ends_by run h how same tells other = record {
  serves = serves_of run.job (desk_before run) (desk_after run) how
      (subst (λ (e : Ending). Serves run.job (desk_before run) (desk_after run) e) same h.serves) other;
  complaint = subst (λ (e : Ending). Tells (complaint_of e) (run.before.at Complaint) (run.after.at Complaint)) same tells;
}
