-- Slice by slice; what the bytes say is what each part asks.
use Rattle.files.proofs.PutTable.{points_ready, planes_ready, elements_ready, table_put}
use Rattle.files.proofs.put.put.Goals as goal

pub put_elements-requires : goal.put_elements-requires
put_elements-requires c = elements_ready c.requires

pub returns : goal.returns
returns c = table_put c.requires c.put_counts.ensures c.put_points.ensures c.put_planes.ensures c.put_elements.ensures

pub put_points-requires : goal.put_points-requires
put_points-requires c = let r = points_ready c.requires in record { d_le_dimensions = r.0; records_ready = r.1 }

pub put_planes-requires : goal.put_planes-requires
put_planes-requires c = let r = planes_ready c.requires in record { d_le_dimensions = r.0; records_ready = r.1 }
