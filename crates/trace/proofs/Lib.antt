mod TracingLaws
