use Rattle.lucy_freely.proofs.top.lucy_free.Goals as goal

pub run_with-requires-after_bounds : goal.run_with-requires-after_bounds
run_with-requires-after_bounds g c κs within = λ alloc accepted lender inputs instants workers same can. (
  ((rw same c.requires, rw same can), (record { shared = c.type_bounds.sync-R.shared }, record { shared = c.type_bounds.sync-F.shared })),
  λ answer left. rw same at left.2,
)
