use Rattle.lucy_views.proofs.PlaceLaws.{place_spot}
use Rattle.lucy_views.proofs.places.entry_text.Goals as goal

pub returns : goal.returns
returns c =
    λ nodes node_is stands. record {
      n = c.args.node.now;
      entry = c.args.entry.now;
      node_is = node_is;
      stands = stands;
      puts =
          place_spot c.args.text.now c.args.node.now c.args.place c.args.entry.now _ _ _ c.new-out.result.items c.put_entry.new.out.items _ c.form_in-form.ensures c.new-out.ensures.items
          c.in_ok-put_entry.ensures c.begin_of.ensures.is c.in_ok-put_spot.ensures;
    }
